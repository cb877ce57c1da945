-- `link_find::last_bearing`: the last line of the id, among those still to come or else what was kept, is that among all.
use mathlib.Core.Path.{◌≡◌}
use Prim.Native.Nat.{◌-◌}
use lib.ListN.{length}
use Rattle.std.specs.Prelude.{None}
use Rattle.tree_line.specs.Lines.{lines_at}
use Rattle.link_find.specs.Find.{bearing_from}
use Rattle.link_find.proofs.last_bearing.Given as goal

abbrev pub invariant-loop-line : goal.invariant-loop-line
invariant-loop-line l = bearing_from l.key l.last (lines_at l.s l.i).items ≡ bearing_from l.key None (lines_at l.s l.first).items

abbrev pub decreases-loop-line : goal.decreases-loop-line
decreases-loop-line l = length l.s - l.i
