-- `link_stray::first_astray`: the first among those still to come is the first of all.
use native.Mathlib.Omega.{arith}
use Rattle.link_stray.proofs.Laws.{going_none, going_astray, going_up, going_on, going_clean, less_behind}
use Rattle.link_stray.proofs.first_astray.Goals as goal

pub stray_at-stray-requires : goal.stray_at-stray-requires
stray_at-stray-requires c = c.requires

pub loop-stray-init : goal.loop-stray-init
loop-stray-init c = going_none _ _ c.stray_at-stray.ensures

pub returns-in-Astray : goal.returns-in-Astray
returns-in-Astray c = going_astray _ _ c.loop-stray.invariant c.in-Astray.is

pub overflow_add-k : goal.overflow_add-k
overflow_add-k c = let u = going_up _ _ c.loop-stray.invariant c.in-Next.is in omega (arith, u.0, u.1, c.well_formed)

pub stray_at-stray-requires-in-Next : goal.stray_at-stray-requires-in-Next
stray_at-stray-requires-in-Next c = c.requires

pub loop-stray-smaller : goal.loop-stray-smaller
loop-stray-smaller c = let u = going_up _ _ c.loop-stray.invariant c.in-Next.is in less_behind _ _ c.in-Next.is u.1 c.stray_at-stray-in-Next.ensures

pub loop-stray-preserved : goal.loop-stray-preserved
loop-stray-preserved c = going_on _ _ c.loop-stray.invariant c.in-Next.is c.stray_at-stray-in-Next.ensures

pub returns-in-Clean : goal.returns-in-Clean
returns-in-Clean c = going_clean _ _ c.loop-stray.invariant c.in-Clean.is
