-- `trail_rows::same_rows`: what is left to compare decides.
use Prim.Native.Nat.{◌-◌}
use lib.ListN.{length}
use Rattle.trail_rows.proofs.Laws.{Comparing}
use Rattle.trail_rows.proofs.same_rows.Given as goal

abbrev pub invariant-loop-lines : goal.invariant-loop-lines
invariant-loop-lines l = Comparing l.s l.model l.at l.file l.from l.i l.k

abbrev pub decreases-loop-lines : goal.decreases-loop-lines
decreases-loop-lines l = length l.s - l.i
