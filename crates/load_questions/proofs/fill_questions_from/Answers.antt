-- `load_questions::fill_questions_from`: what is left, stored, gives the table with all of them.
use mathlib.Core.Path.{sym, ◌∙◌}
use native.Mathlib.Omega.{arith}
use Rattle.load_questions.proofs.Laws.{told_of, asking_none, next_room, asking_more, last_room, asking_last, asking_broken}
use Rattle.load_questions.proofs.fill_questions_from.Goals as goal

pub loop-start-init : goal.loop-start-init
loop-start-init c = asking_none _ _ _ c.requires

pub put4-requires : goal.put4-requires
put4-requires c = next_room _ _ _ _ _ _ _ c.loop-start.invariant (told_of _ _ (sym c.in-Next.is ∙ c.question_row.ensures))

pub overflow_add-word : goal.overflow_add-word
overflow_add-word c = omega (arith, next_room _ _ _ _ _ _ _ c.loop-start.invariant (told_of _ _ (sym c.in-Next.is ∙ c.question_row.ensures)))

pub overflow_add-pattern : goal.overflow_add-pattern
overflow_add-pattern c = omega (arith, c.loop-start.invariant.few, (told_of _ _ (sym c.in-Next.is ∙ c.question_row.ensures)).apart, (told_of _ _ (sym c.in-Next.is ∙ c.question_row.ensures)).inside, c.well_formed)

pub loop-start-smaller : goal.loop-start-smaller
loop-start-smaller c = omega (arith, (told_of _ _ (sym c.in-Next.is ∙ c.question_row.ensures)).on, (told_of _ _ (sym c.in-Next.is ∙ c.question_row.ensures)).inside)

pub loop-start-preserved : goal.loop-start-preserved
loop-start-preserved c = asking_more _ _ _ _ _ _ _ c.loop-start.invariant (told_of _ _ (sym c.in-Next.is ∙ c.question_row.ensures)) _ c.put4.ensures

pub put4-requires-in-Last : goal.put4-requires-in-Last
put4-requires-in-Last c = last_room _ _ _ _ _ _ _ c.loop-start.invariant (told_of _ _ (sym c.in-Last.is ∙ c.question_row.ensures))

pub shape_of-questions-in-Last : goal.shape_of-questions-in-Last
shape_of-questions-in-Last c = c.put4-in-Last.auto.t ∙ c.loop-start.invariant.long

pub returns-in-Last : goal.returns-in-Last
returns-in-Last c = asking_last _ _ _ _ _ _ _ c.loop-start.invariant (told_of _ _ (sym c.in-Last.is ∙ c.question_row.ensures)) _ c.put4-in-Last.ensures

pub shape_of-questions-in-Broken : goal.shape_of-questions-in-Broken
shape_of-questions-in-Broken c = c.loop-start.invariant.long

pub returns-in-Broken : goal.returns-in-Broken
returns-in-Broken c = asking_broken _ _ _ _ _ _ _ c.loop-start.invariant (told_of _ _ (sym c.in-Broken.is ∙ c.question_row.ensures))
