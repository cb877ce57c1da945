-- `link_targets::in_order`: the answer is the same from each line on.
use mathlib.Core.Path.{◌≡◌}
use Prim.Native.Nat.{◌-◌, ◌≤◌}
use Rattle.link_targets.specs.Targets.{order_from}
use Rattle.link_targets.proofs.in_order.Given as goal

abbrev pub invariant-loop-line : goal.invariant-loop-line
invariant-loop-line l = (l.line ≤ l.n) × (order_from l.work l.line (l.n - l.line) ≡ order_from l.work 0 l.n)
