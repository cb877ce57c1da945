-- `tree_survey_questions::count_patterns`: what is counted, and what is still to be read, come to the same.
use mathlib.Core.Path.{refl, sym, ◌∙◌}
use native.Mathlib.Omega.{arith}
use Rattle.tree_survey_questions.proofs.Counting.{next_in, last_in, counted_more, counted_last, counted_broken}
use Rattle.tree_survey_questions.proofs.count_patterns.Goals as goal

pub loop-next-init : goal.loop-next-init
loop-next-init c = record { same = refl; few = omega arith }

pub overflow_add-n : goal.overflow_add-n
overflow_add-n c = omega (arith, next_in _ c.loop-next.i (sym c.in-Next.is ∙ c.next_pattern.ensures), c.loop-next.invariant.few, c.well_formed)

pub loop-next-smaller : goal.loop-next-smaller
loop-next-smaller c = omega (arith, next_in _ c.loop-next.i (sym c.in-Next.is ∙ c.next_pattern.ensures))

pub loop-next-preserved : goal.loop-next-preserved
loop-next-preserved c = counted_more _ c.loop-next.invariant (sym c.in-Next.is ∙ c.next_pattern.ensures)

pub overflow_add-result : goal.overflow_add-result
overflow_add-result c = omega (arith, last_in _ c.loop-next.i (sym c.in-Last.is ∙ c.next_pattern.ensures), c.loop-next.invariant.few, c.well_formed)

pub returns-in-Last : goal.returns-in-Last
returns-in-Last c = counted_last _ c.loop-next.invariant (sym c.in-Last.is ∙ c.next_pattern.ensures)

pub returns-in-Broken : goal.returns-in-Broken
returns-in-Broken c = counted_broken _ c.loop-next.invariant (sym c.in-Broken.is ∙ c.next_pattern.ensures)
