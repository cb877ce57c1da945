-- `link_window::first_unasked` : the first among those still to come is the first of all.
use mathlib.Core.Path.{sym, subst}
use native.Mathlib.Omega.{arith}
use Prim.Native.Nat.{◌<◌}
use lib.ListN.{length}
use Rattle.link_window.specs.declared.Window.{Window}
use Rattle.link_window.proofs.Laws.{going_none, going_small, going_missing, going_up, going_next, going_clean, room_behind, window_less}
use Rattle.link_window.proofs.first_unasked.Goals as goal

pub loop-window-init : goal.loop-window-init
loop-window-init c = (c.args.first, going_none _ _ _, c.read_window-window.ensures)

pub overflow_add-result : goal.overflow_add-result
overflow_add-result c = let v = c.loop-window.invariant in omega (arith, going_small _ _ _ v.1 v.2 c.in-Missing.is, c.well_formed)

pub returns-in-Missing : goal.returns-in-Missing
returns-in-Missing c = let v = c.loop-window.invariant in going_missing _ _ _ v.1 v.2 c.in-Missing.is

pub overflow_add-k : goal.overflow_add-k
overflow_add-k c = let v = c.loop-window.invariant in omega (arith, going_up _ _ _ v.1 v.2 c.in-Next.is, v.1.few, c.well_formed)

pub loop-window-smaller : goal.loop-window-smaller
loop-window-smaller c =
    let v = c.loop-window.invariant in
    let s = c.args.s.now in
    subst (λ (w : Window). room_behind (length s) c.read_window-window-in-Next.result < room_behind (length s) w) (sym c.in-Next.is) (window_less c.read_window-window-in-Next.ensures (going_up _ _ _ v.1 v.2 c.in-Next.is).1)

pub loop-window-preserved : goal.loop-window-preserved
loop-window-preserved c = let v = c.loop-window.invariant in (_, going_next _ _ _ v.1 v.2 c.in-Next.is, c.read_window-window-in-Next.ensures)

pub returns-in-Clean : goal.returns-in-Clean
returns-in-Clean c = let v = c.loop-window.invariant in going_clean _ _ _ v.1 v.2 c.in-Clean.is
