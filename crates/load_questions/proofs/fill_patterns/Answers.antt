-- `load_questions::fill_patterns`: what is left, stored and counted, gives the table and the count with all of them.
use mathlib.Core.Path.{refl, sym, ◌∙◌}
use native.Mathlib.Omega.{arith}
use Rattle.tree_survey_questions.proofs.Counting.{next_in, last_in, counted_more, counted_last, counted_broken}
use Rattle.load_questions.proofs.Patterns.{matching_none, next_fits, matching_more, last_fits, matching_last, matching_broken}
use Rattle.load_questions.proofs.fill_patterns.Goals as goal

pub loop-start-init : goal.loop-start-init
loop-start-init c = (matching_none _ _ _ _ c.requires, record { same = refl; few = omega arith })

pub put2-requires : goal.put2-requires
put2-requires c = next_fits _ _ _ _ _ _ _ c.loop-start.invariant.0 (sym c.in-Next.is ∙ c.next_pattern.ensures)

pub overflow_add-word : goal.overflow_add-word
overflow_add-word c = omega (arith, next_fits _ _ _ _ _ _ _ c.loop-start.invariant.0 (sym c.in-Next.is ∙ c.next_pattern.ensures))

pub overflow_add-n : goal.overflow_add-n
overflow_add-n c = omega (arith, next_in _ c.loop-start.i (sym c.in-Next.is ∙ c.next_pattern.ensures), c.loop-start.invariant.1.few, c.well_formed)

pub loop-start-smaller : goal.loop-start-smaller
loop-start-smaller c = omega (arith, next_in _ c.loop-start.i (sym c.in-Next.is ∙ c.next_pattern.ensures))

pub loop-start-preserved : goal.loop-start-preserved
loop-start-preserved c =
    let step = sym c.in-Next.is ∙ c.next_pattern.ensures in
    (matching_more _ _ _ _ _ _ _ c.loop-start.invariant.0 step _ c.put2.ensures, counted_more _ c.loop-start.invariant.1 step)

pub put2-requires-in-Last : goal.put2-requires-in-Last
put2-requires-in-Last c = last_fits _ _ _ _ _ _ _ c.loop-start.invariant.0 (sym c.in-Last.is ∙ c.next_pattern.ensures)

pub overflow_add-result : goal.overflow_add-result
overflow_add-result c = omega (arith, last_in _ c.loop-start.i (sym c.in-Last.is ∙ c.next_pattern.ensures), c.loop-start.invariant.1.few, c.well_formed)

pub shape_of-patterns-in-Last : goal.shape_of-patterns-in-Last
shape_of-patterns-in-Last c = c.put2-in-Last.auto.t ∙ c.loop-start.invariant.0.long

pub returns-in-Last : goal.returns-in-Last
returns-in-Last c =
    let step = sym c.in-Last.is ∙ c.next_pattern.ensures in
    (counted_last _ c.loop-start.invariant.1 step, matching_last _ _ _ _ _ _ _ c.loop-start.invariant.0 step _ c.put2-in-Last.ensures)

pub shape_of-patterns-in-Broken : goal.shape_of-patterns-in-Broken
shape_of-patterns-in-Broken c = c.loop-start.invariant.0.long

pub returns-in-Broken : goal.returns-in-Broken
returns-in-Broken c =
    let step = sym c.in-Broken.is ∙ c.next_pattern.ensures in
    (counted_broken _ c.loop-start.invariant.1 step, matching_broken _ _ _ _ _ _ _ c.loop-start.invariant.0 step)
