-- `trail_voice::same_voice`: the models that are left decide.
use mathlib.Core.Path.{sym, ◌∙◌}
use native.Mathlib.Omega.{arith}
use Rattle.head_words.specs.Words.{header_at}
use Rattle.trail_voice.proofs.Laws.{next_at, comparing_none, comparing_room, compared_other, comparing_more, compared_all}
use Rattle.trail_voice.proofs.same_voice.Goals as goal

pub loop-next-init : goal.loop-next-init
loop-next-init c = comparing_none c.args.file.now (header_at c.args.words.now) c.requires.words_value c.requires.words_in_bounds

pub same_model-requires : goal.same_model-requires
same_model-requires c =
    let z = comparing_room c.args.file.now (header_at c.args.words.now) c.requires.words_value c.loop-next.invariant in
    record { in_bounds = (c.requires.in_bounds, z.1); which_in_bounds = z.0 }

pub returns-in-None : goal.returns-in-None
returns-in-None c = compared_other c.args.file.now (header_at c.args.words.now) c.requires.words_value c.loop-next.invariant (sym c.in-None.is ∙ c.same_model.ensures)

pub next_model-requires : goal.next_model-requires
next_model-requires c = record { in_bounds = (c.requires.in_bounds, c.loop-next.invariant.at.in_types); words_value = c.requires.words_value }

pub loop-next-smaller : goal.loop-next-smaller
loop-next-smaller c =
    let l = c.loop-next in
    let z = next_at c.args.file.now (header_at c.args.words.now) c.requires.words_value l.invariant.at (sym c.in-Some-next_model.is ∙ c.next_model.ensures) in
    omega (arith, z.1, z.2)

pub loop-next-preserved : goal.loop-next-preserved
loop-next-preserved c = comparing_more c.args.file.now (header_at c.args.words.now) c.requires.words_value c.loop-next.invariant (sym c.in-Some.is ∙ c.same_model.ensures) (sym c.in-Some-next_model.is ∙ c.next_model.ensures)

pub returns-in-None-next_model : goal.returns-in-None-next_model
returns-in-None-next_model c = compared_all c.args.file.now (header_at c.args.words.now) c.requires.words_value c.loop-next.invariant (sym c.in-Some.is ∙ c.same_model.ensures) (sym c.in-None-next_model.is ∙ c.next_model.ensures)
