-- `tree_survey::survey_trees`: what is counted, and what is still to be read, come to the same.
use mathlib.Core.Path.{refl, sym, ◌∙◌}
use native.Mathlib.Omega.{arith}
use Rattle.tree_survey.proofs.Counting.{more_in, final_in, surveyed_more, surveyed_end, surveyed_none}
use Rattle.tree_survey.proofs.survey_trees.Goals as goal

pub loop-negative-init : goal.loop-negative-init
loop-negative-init c = record { same = refl; few = omega arith; few_records = omega arith }

pub overflow_add-n : goal.overflow_add-n
overflow_add-n c = omega (arith, more_in _ c.loop-negative.i (sym c.in-Next.is ∙ c.survey_tree.ensures), c.loop-negative.invariant.few, c.well_formed)

pub overflow_add-m : goal.overflow_add-m
overflow_add-m c = omega (arith, more_in _ c.loop-negative.i (sym c.in-Next.is ∙ c.survey_tree.ensures), c.loop-negative.invariant.few_records, c.well_formed)

pub loop-negative-smaller : goal.loop-negative-smaller
loop-negative-smaller c = omega (arith, more_in _ c.loop-negative.i (sym c.in-Next.is ∙ c.survey_tree.ensures))

pub loop-negative-preserved : goal.loop-negative-preserved
loop-negative-preserved c = surveyed_more _ c.loop-negative.invariant (sym c.in-Next.is ∙ c.survey_tree.ensures) c.either-below.ensures c.larger_of-longest.ensures

pub overflow_add-result : goal.overflow_add-result
overflow_add-result c = omega (arith, final_in _ c.loop-negative.i (sym c.in-Last.is ∙ c.survey_tree.ensures), c.loop-negative.invariant.few, c.well_formed)

pub overflow_add-result-in-Last : goal.overflow_add-result-in-Last
overflow_add-result-in-Last c = omega (arith, final_in _ c.loop-negative.i (sym c.in-Last.is ∙ c.survey_tree.ensures), c.loop-negative.invariant.few_records, c.well_formed)

pub returns-in-Last : goal.returns-in-Last
returns-in-Last c = surveyed_end _ c.loop-negative.invariant (sym c.in-Last.is ∙ c.survey_tree.ensures) c.either.ensures c.larger_of.ensures

pub returns-in-Broken : goal.returns-in-Broken
returns-in-Broken c = surveyed_none _ c.loop-negative.invariant (sym c.in-Broken.is ∙ c.survey_tree.ensures)
