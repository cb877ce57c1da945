-- `tree_survey_questions::count_questions`: what is counted, and what is still to be read, come to the same.
use mathlib.Core.Path.{refl, sym, ◌∙◌}
use native.Mathlib.Omega.{arith}
use Rattle.tree_survey_questions.proofs.Counting.{more_in, final_in, surveyed_more, surveyed_end, surveyed_none}
use Rattle.tree_survey_questions.proofs.count_questions.Goals as goal

pub loop-patterns-init : goal.loop-patterns-init
loop-patterns-init c = record { same = refl; few = omega arith; few_patterns = omega arith }

pub overflow_add-n : goal.overflow_add-n
overflow_add-n c = omega (arith, more_in _ c.loop-patterns.i _ _ (sym c.in-Next.is ∙ c.survey_question.ensures), c.loop-patterns.invariant.few, c.well_formed)

pub overflow_add-m : goal.overflow_add-m
overflow_add-m c = omega (arith, more_in _ c.loop-patterns.i _ _ (sym c.in-Next.is ∙ c.survey_question.ensures), c.loop-patterns.invariant.few_patterns, c.well_formed)

pub loop-patterns-smaller : goal.loop-patterns-smaller
loop-patterns-smaller c = omega (arith, more_in _ c.loop-patterns.i _ _ (sym c.in-Next.is ∙ c.survey_question.ensures))

pub loop-patterns-preserved : goal.loop-patterns-preserved
loop-patterns-preserved c = surveyed_more _ c.loop-patterns.invariant (sym c.in-Next.is ∙ c.survey_question.ensures)

pub overflow_add-result : goal.overflow_add-result
overflow_add-result c = omega (arith, final_in _ c.loop-patterns.i _ _ (sym c.in-Last.is ∙ c.survey_question.ensures), c.loop-patterns.invariant.few, c.well_formed)

pub overflow_add-result-in-Last : goal.overflow_add-result-in-Last
overflow_add-result-in-Last c = omega (arith, final_in _ c.loop-patterns.i _ _ (sym c.in-Last.is ∙ c.survey_question.ensures), c.loop-patterns.invariant.few_patterns, c.well_formed)

pub returns-in-Last : goal.returns-in-Last
returns-in-Last c = surveyed_end _ c.loop-patterns.invariant (sym c.in-Last.is ∙ c.survey_question.ensures)

pub returns-in-Broken : goal.returns-in-Broken
returns-in-Broken c = surveyed_none _ c.loop-patterns.invariant (sym c.in-Broken.is ∙ c.survey_question.ensures)
