-- `link_names::mark_all`: question by question, as long as a key is left.
use Prim.Native.Nat.{◌-◌, ◌≤◌}
use lib.ListN.{length}
use Rattle.link_names.specs.Names.{Gone}
use Rattle.link_names.proofs.Laws.{Hearing}
use Rattle.link_names.proofs.mark_all.Given as goal

abbrev pub invariant-loop-start : goal.invariant-loop-start
invariant-loop-start l = Hearing l.s l.names l.initial.keys l.n l.first l.keys l.i × Gone l.low l.keys × (l.low ≤ l.n)

abbrev pub decreases-loop-start : goal.decreases-loop-start
decreases-loop-start l = length l.s - l.i
