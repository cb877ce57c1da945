-- `label_match::after_star`: what is behind j matches some end of the label from i on exactly where the whole does.
use Prim.Native.Nat.{◌-◌}
use lib.ListN.{length}
use Rattle.label_match.proofs.Laws.{Behind}
use Rattle.label_match.proofs.after_star.Given as goal

abbrev pub invariant-loop-from : goal.invariant-loop-from
invariant-loop-from l = Behind l.pattern l.label l.from l.at l.j l.i

abbrev pub decreases-loop-from : goal.decreases-loop-from
decreases-loop-from l = length l.pattern - l.j
