-- `link_find::last_named`: the last question of the name, among those still to come or else before them, is that among all.
use mathlib.Core.Path.{refl, sym, ◌∙◌}
use native.Mathlib.Omega.{arith}
use Rattle.link_find.specs.Find.{named}
use Rattle.link_find.proofs.Finding.{named_next, named_last, named_none, last_on, last_end, last_over, hit}
use Rattle.link_find.proofs.last_named.Goals as goal

pub loop-start-init : goal.loop-start-init
loop-start-init c = (refl, omega arith)

pub overflow_add-row : goal.overflow_add-row
overflow_add-row c = omega (arith, named_next _ _ (sym c.in-Next.is ∙ c.next_name.ensures), c.loop-start.invariant.1, c.well_formed)

pub loop-start-smaller : goal.loop-start-smaller
loop-start-smaller c = omega (arith, named_next _ _ (sym c.in-Next.is ∙ c.next_name.ensures))

pub loop-start-preserved : goal.loop-start-preserved
loop-start-preserved c = let w = named_next _ _ (sym c.in-Next.is ∙ c.next_name.ensures) in (last_on (named _ _) _ _ w.2.items (hit _ _ w.2 c.part_inside.ensures c.same_name.ensures) c.found_after-last.ensures ∙ c.loop-start.invariant.0, omega (arith, w.0, c.loop-start.invariant.1))

pub returns-in-Last : goal.returns-in-Last
returns-in-Last c = let w = named_last _ _ (sym c.in-Last.is ∙ c.next_name.ensures) in last_end (named _ _) _ _ w.items (hit _ _ w c.part_inside-in-Last.ensures c.same_name-in-Last.ensures) c.found_after.ensures ∙ c.loop-start.invariant.0

pub returns-in-Broken : goal.returns-in-Broken
returns-in-Broken c = last_over (named _ _) _ _ (named_none _ _ (sym c.in-Broken.is ∙ c.next_name.ensures)) ∙ c.loop-start.invariant.0
