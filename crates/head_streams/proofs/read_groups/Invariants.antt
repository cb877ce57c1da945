-- `head_streams::read_groups` meets its contract. The invariant: what is left of the rows gives the answer.
use Prim.Native.Nat.{◌-◌}
use lib.ListN.{length}
use Rattle.head_streams.proofs.Reading.{Reached}
use Rattle.head_streams.proofs.read_groups.Given as goal

abbrev pub invariant-loop-row : goal.invariant-loop-row
invariant-loop-row l = Reached l.s l.start l.initial.words l.words l.at.at l.n

abbrev pub decreases-loop-row : goal.decreases-loop-row
decreases-loop-row l = length l.s - l.at.at
