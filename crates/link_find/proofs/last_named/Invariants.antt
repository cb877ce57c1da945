-- `link_find::last_named`: the last question of the name, among those still to come or else before them, is that among all.
use mathlib.Core.Path.{◌≡◌}
use Prim.Native.Nat.{◌-◌, ◌≤◌}
use lib.ListN.{length}
use Rattle.std.specs.Prelude.{None}
use Rattle.tree_question.proofs.Filling.{questions_from_here}
use Rattle.link_find.specs.Find.{last_from, named}
use Rattle.link_find.proofs.last_named.Given as goal

abbrev pub invariant-loop-start : goal.invariant-loop-start
invariant-loop-start l = (last_from (named l.s l.name) l.row l.last (questions_from_here l.s l.i).items ≡ last_from (named l.s l.name) 0 None (questions_from_here l.s l.first).items) × (l.row ≤ l.i)

abbrev pub decreases-loop-start : goal.decreases-loop-start
decreases-loop-start l = length l.s - l.i
