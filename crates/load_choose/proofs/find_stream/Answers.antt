-- `load_choose::find_stream` meets its contract.
use Rattle.load_choose.proofs.Words.{Counts, counts, stream_found}
use mathlib.Core.Path.{sym, ◌∙◌}
use native.Mathlib.Omega.{arith}
use Rattle.load_choose.proofs.find_stream.Goals.{Start}
use Rattle.load_choose.proofs.find_stream.Goals as goal

-- the counts of the record are within their limits
limits : (c : Start) → Counts c.args.words.now
limits c = counts _ _ c.requires.words_value

pub overflow_mul-i : goal.overflow_mul-i
overflow_mul-i c = omega (arith, c.requires.in_bounds.1, (limits (goal.at.overflow_mul-i c).Start).types)

pub overflow_add-i : goal.overflow_add-i
overflow_add-i c = omega (arith, c.requires.in_bounds.1, (limits (goal.at.overflow_add-i c).Start).types)

pub span_at-requires : goal.span_at-requires
span_at-requires c = omega (arith, c.requires.in_bounds.1, c.requires.in_bounds.0, (limits (goal.at.span_at-requires c).Start).types)

pub find_group-requires : goal.find_group-requires
find_group-requires c = λ k h. omega (arith, (limits (goal.at.find_group-requires c).Start).streams, c.requires.in_bounds.0)

pub returns : goal.returns
returns c =
    let x = c.args in
    c.find_group.ensures ∙ sym (stream_found x.file.now x.words.now x.i (limits (goal.at.returns c).Start) c.requires.in_bounds.1 _ c.span_at.ensures)
