-- `link_find::ids_in_order`: the answer is the same from each line on.
use mathlib.Core.Path.{refl, sym, ◌∙◌}
use native.Mathlib.Omega.{arith}
use borrow.Author.Tests.{not-true, not-false}
use Rattle.tree_survey_lines.proofs.Counting.{items_next, items_last, items_broken, next_in}
use Rattle.link_find.proofs.Finding.{ordered_on, ordered_off, ordered_end, ordered_none}
use Rattle.link_find.proofs.ids_in_order.Goals as goal

pub loop-line-init : goal.loop-line-init
loop-line-init c = (refl, omega arith)

pub returns-then-not-in_place : goal.returns-then-not-in_place
returns-then-not-in_place c = ordered_off _ (items_next _ _ (sym c.in-Next.is ∙ c.next_line.ensures)) (sym c.in_place.ensures ∙ not-true _ c.if-not-in_place.true-raw) ∙ c.loop-line.invariant.0

pub overflow_add-number : goal.overflow_add-number
overflow_add-number c = omega (arith, next_in _ _ (sym c.in-Next.is ∙ c.next_line.ensures), c.loop-line.invariant.1, c.well_formed)

pub loop-line-smaller : goal.loop-line-smaller
loop-line-smaller c = omega (arith, next_in _ _ (sym c.in-Next.is ∙ c.next_line.ensures))

pub loop-line-preserved : goal.loop-line-preserved
loop-line-preserved c = (ordered_on _ (items_next _ _ (sym c.in-Next.is ∙ c.next_line.ensures)) (sym c.in_place.ensures ∙ not-false _ c.if-not-in_place.false-raw) ∙ c.loop-line.invariant.0, omega (arith, next_in _ _ (sym c.in-Next.is ∙ c.next_line.ensures), c.loop-line.invariant.1))

pub returns-in-Last : goal.returns-in-Last
returns-in-Last c = ordered_end _ (items_last _ _ (sym c.in-Last.is ∙ c.next_line.ensures)) c.in_place-in-Last.ensures ∙ c.loop-line.invariant.0

pub returns-in-Broken : goal.returns-in-Broken
returns-in-Broken c = ordered_none _ (items_broken _ _ (sym c.in-Broken.is ∙ c.next_line.ensures)) ∙ c.loop-line.invariant.0
