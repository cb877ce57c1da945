-- `head_position::read_group` meets its contract. The invariant: what is left of the rows gives the answer.
use Prim.Native.Nat.{◌-◌}
use lib.ListN.{length}
use Rattle.head_position.proofs.Reading.{Reached}
use Rattle.head_position.proofs.read_group.Given as goal

abbrev pub invariant-loop-row : goal.invariant-loop-row
invariant-loop-row l = Reached l.s l.start l.name l.item l.at.at l.seen

abbrev pub decreases-loop-row : goal.decreases-loop-row
decreases-loop-row l = length l.s - l.at.at
