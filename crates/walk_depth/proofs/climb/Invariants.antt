-- `walk_depth::climb`: a way of records from the first on, none of them settled. Each turn settles one and shortens the way, or makes it longer: what falls is twice the records that aren't settled, and what is left of the way.
use mathlib.Core.Path.{◌≡◌}
use Prim.Native.Nat.{◌+◌, ◌-◌, ◌*◌}
use lib.ListN.{length}
use Rattle.table_rows.specs.Rows.{records_in}
use Rattle.walk_reach.specs.Work.{slot_at, zeros}
use Rattle.walk_reach.specs.Seeing.{tree_records_of}
use Rattle.walk_depth.proofs.Climbing.{Climbing}
use Rattle.walk_depth.proofs.climb.Given as goal

abbrev pub invariant-loop-len : goal.invariant-loop-len
invariant-loop-len l =
    Climbing (tree_records_of l.records l.first l.count) (records_in l.records l.first l.count) l.work l.len × (length l.work ≡ length l.initial.work) × (l.many ≡ records_in l.records l.first l.count)

abbrev pub decreases-loop-len : goal.decreases-loop-len
decreases-loop-len l = 2 * zeros (slot_at 2 l.work) (records_in l.records l.first l.count) + (records_in l.records l.first l.count - l.len)
