-- `load_choose::uses_gv` meets its contract.
use Rattle.load_choose.proofs.Words.{counts, k_inside, no_stream_uses, stream_uses}
use mathlib.Core.Path.{sym, ◌∙◌}
use Prim.Native.Nat.{◌<◌}
use native.Mathlib.Omega.{arith}
use Rattle.load_choose.proofs.uses_gv.Goals.{In-Some}
use Rattle.load_choose.proofs.uses_gv.Goals as goal

-- the group found is among the eight
found_k : (c : In-Some) → c.in-Some.k < 8
found_k c = k_inside c.args.file.now c.args.words.now c.args.i (counts _ _ c.requires.words_value) (sym c.find_stream.ensures ∙ c.in-Some.is)

pub overflow_mul-result : goal.overflow_mul-result
overflow_mul-result c = omega (arith, found_k (goal.at.overflow_mul-result c).In-Some)

pub overflow_add-result : goal.overflow_add-result
overflow_add-result c = omega (arith, found_k (goal.at.overflow_add-result c).In-Some)

pub overflow_add-result-in-Some : goal.overflow_add-result-in-Some
overflow_add-result-in-Some c = omega (arith, found_k (goal.at.overflow_add-result-in-Some c).In-Some)

pub offset_bounds-words-k : goal.offset_bounds-words-k
offset_bounds-words-k c = omega (arith, found_k (goal.at.offset_bounds-words-k c).In-Some)

pub bounds-words-k : goal.bounds-words-k
bounds-words-k c = omega (arith, found_k (goal.at.bounds-words-k c).In-Some, c.requires.in_bounds.0)

pub returns-in-None : goal.returns-in-None
returns-in-None c =
    let x = c.args in
    no_stream_uses x.file.now x.words.now x.i (sym c.find_stream.ensures ∙ c.in-None.is)

pub returns-in-Some : goal.returns-in-Some
returns-in-Some c =
    let x = c.args in
    stream_uses x.file.now x.words.now x.i (counts _ _ c.requires.words_value) (sym c.find_stream.ensures ∙ c.in-Some.is)
