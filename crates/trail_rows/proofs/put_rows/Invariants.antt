-- `trail_rows::put_rows`: the rows that are left, stored where the loop is, are all of them.
use Prim.Native.Nat.{◌-◌}
use lib.ListN.{length}
use Rattle.trail_rows.proofs.Laws.{Storing}
use Rattle.trail_rows.proofs.put_rows.Given as goal

abbrev pub invariant-loop-lines : goal.invariant-loop-lines
invariant-loop-lines l = Storing l.s l.model l.at l.initial.t l.from l.t l.i l.k

abbrev pub decreases-loop-lines : goal.decreases-loop-lines
decreases-loop-lines l = length l.s - l.i
