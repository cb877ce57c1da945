-- `link_find::ids_in_order`: the answer is the same from each line on.
use mathlib.Core.Path.{◌≡◌}
use Prim.Native.Nat.{◌-◌, ◌≤◌}
use lib.ListN.{length}
use Rattle.tree_line.specs.Lines.{lines_at}
use Rattle.link_find.specs.Find.{ordered}
use Rattle.link_find.proofs.ids_in_order.Given as goal

abbrev pub invariant-loop-line : goal.invariant-loop-line
invariant-loop-line l = (ordered l.number (lines_at l.s l.i).items ≡ ordered 0 (lines_at l.s l.first).items) × (l.number ≤ l.i)

abbrev pub decreases-loop-line : goal.decreases-loop-line
decreases-loop-line l = length l.s - l.i
