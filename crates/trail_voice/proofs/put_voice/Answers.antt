-- `trail_voice::put_voice`: the rows of the models that are left, stored where the loop is, are all of them.
use mathlib.Core.Path.{sym, ◌∙◌}
use native.Mathlib.Omega.{arith}
use Rattle.head_words.specs.Words.{header_at}
use Rattle.trail_voice.proofs.Laws.{next_at, storing_none, storing_room, storing_more, stored_all, stored_long}
use Rattle.trail_voice.proofs.put_voice.Goals as goal

pub loop-next-init : goal.loop-next-init
loop-next-init c = storing_none c.args.file.now (header_at c.args.words.now) c.requires.words_value c.requires.words_in_bounds

pub put_model-k-requires : goal.put_model-k-requires
put_model-k-requires c =
    let z = storing_room c.args.file.now (header_at c.args.words.now) c.requires.words_value c.loop-next.invariant in
    record { in_bounds = (c.requires.in_bounds, z.1); which_in_bounds = z.0 }

pub next_model-requires : goal.next_model-requires
next_model-requires c = record { in_bounds = (c.requires.in_bounds, c.loop-next.invariant.at.in_types); words_value = c.requires.words_value }

pub loop-next-smaller : goal.loop-next-smaller
loop-next-smaller c =
    let l = c.loop-next in
    let z = next_at c.args.file.now (header_at c.args.words.now) c.requires.words_value l.invariant.at (sym c.in-Some.is ∙ c.next_model.ensures) in
    omega (arith, z.1, z.2)

pub loop-next-preserved : goal.loop-next-preserved
loop-next-preserved c = storing_more c.args.file.now (header_at c.args.words.now) c.requires.words_value c.loop-next.invariant c.put_model-k.ensures.0 c.put_model-k.ensures.1 (sym c.in-Some.is ∙ c.next_model.ensures)

pub shape_of-t-in-None : goal.shape_of-t-in-None
shape_of-t-in-None c = stored_long c.args.file.now (header_at c.args.words.now) c.requires.words_value c.loop-next.invariant c.put_model-k.ensures.0 c.put_model-k.ensures.1

pub returns-in-None : goal.returns-in-None
returns-in-None c = stored_all c.args.file.now (header_at c.args.words.now) c.requires.words_value c.loop-next.invariant c.put_model-k.ensures.0 c.put_model-k.ensures.1 (sym c.in-None.is ∙ c.next_model.ensures)
