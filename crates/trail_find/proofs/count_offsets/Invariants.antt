-- `trail_find::count_offsets`: the rows so far and those of what is left are all.
use mathlib.Core.Path.{◌≡◌}
use Prim.Native.Nat.{◌+◌, ◌*◌, ◌-◌, ◌≤◌}
use lib.ListN.{length}
use Rattle.trail_find.specs.Rows.{offsets_at}
use Rattle.trail_find.proofs.count_offsets.Given as goal

abbrev pub invariant-loop-row : goal.invariant-loop-row
invariant-loop-row l = (l.n + length (offsets_at l.s l.model (l.begin + 12 * l.row) (l.count - l.row)) ≡ length (offsets_at l.s l.model l.begin l.count)) × (l.n ≤ l.row)
