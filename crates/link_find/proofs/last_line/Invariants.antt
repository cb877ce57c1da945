-- `link_find::last_line`: the last line of the id, among those still to come or else before them, is that among all.
use mathlib.Core.Path.{◌≡◌}
use Prim.Native.Nat.{◌-◌, ◌≤◌}
use lib.ListN.{length}
use Rattle.std.specs.Prelude.{None}
use Rattle.tree_line.specs.Lines.{lines_at}
use Rattle.link_find.specs.Find.{last_from, bears}
use Rattle.link_find.proofs.last_line.Given as goal

abbrev pub invariant-loop-line : goal.invariant-loop-line
invariant-loop-line l = (last_from (bears l.key) l.number l.last (lines_at l.s l.i).items ≡ last_from (bears l.key) 0 None (lines_at l.s l.first).items) × (l.number ≤ l.i)

abbrev pub decreases-loop-line : goal.decreases-loop-line
decreases-loop-line l = length l.s - l.i
