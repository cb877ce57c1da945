-- `link_find::last_line`: the last line of the id, among those still to come or else before them, is that among all.
use mathlib.Core.Path.{refl, sym, ◌∙◌}
use native.Mathlib.Omega.{arith}
use Rattle.tree_survey_lines.proofs.Counting.{items_next, items_last, items_broken, next_in}
use Rattle.link_find.specs.Find.{bears}
use Rattle.link_find.proofs.Finding.{last_on, last_end, last_over}
use Rattle.link_find.proofs.last_line.Goals as goal

pub loop-line-init : goal.loop-line-init
loop-line-init c = (refl, omega arith)

pub overflow_add-number : goal.overflow_add-number
overflow_add-number c = omega (arith, next_in _ _ (sym c.in-Next.is ∙ c.next_line.ensures), c.loop-line.invariant.1, c.well_formed)

pub loop-line-smaller : goal.loop-line-smaller
loop-line-smaller c = omega (arith, next_in _ _ (sym c.in-Next.is ∙ c.next_line.ensures))

pub loop-line-preserved : goal.loop-line-preserved
loop-line-preserved c = (last_on (bears _) _ _ (items_next _ _ (sym c.in-Next.is ∙ c.next_line.ensures)) c.bears_id.ensures c.found_after-last.ensures ∙ c.loop-line.invariant.0, omega (arith, next_in _ _ (sym c.in-Next.is ∙ c.next_line.ensures), c.loop-line.invariant.1))

pub returns-in-Last : goal.returns-in-Last
returns-in-Last c = last_end (bears _) _ _ (items_last _ _ (sym c.in-Last.is ∙ c.next_line.ensures)) c.bears_id-in-Last.ensures c.found_after.ensures ∙ c.loop-line.invariant.0

pub returns-in-Broken : goal.returns-in-Broken
returns-in-Broken c = last_over (bears _) _ _ (items_broken _ _ (sym c.in-Broken.is ∙ c.next_line.ensures)) ∙ c.loop-line.invariant.0
