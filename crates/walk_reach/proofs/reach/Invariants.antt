-- `walk_reach::reach`: what stands before the head is good, and all that it refers to is marked.
use mathlib.Core.Path.{◌≡◌}
use Prim.Native.Nat.{◌-◌}
use lib.ListN.{length}
use Rattle.table_rows.specs.Rows.{records_in}
use Rattle.walk_reach.specs.Seeing.{tree_records_of}
use Rattle.walk_reach.proofs.Queue.{Reaching}
use Rattle.walk_reach.proofs.reach.Given as goal

abbrev pub invariant-loop-head : goal.invariant-loop-head
invariant-loop-head l =
    Reaching (tree_records_of l.records l.first l.count) (records_in l.records l.first l.count) l.work l.head l.tail × (length l.work ≡ length l.initial.work)

abbrev pub decreases-loop-head : goal.decreases-loop-head
decreases-loop-head l = records_in l.records l.first l.count - l.head
