-- `trail_find::find_offset`: among the rows that are left, so many of the model before it.
use mathlib.Core.Path.{◌≡◌}
use Prim.Native.Nat.{◌+◌, ◌*◌, ◌-◌}
use Rattle.trail_find.specs.Rows.{offsets_at, nth_of}
use Rattle.trail_find.proofs.find_offset.Given as goal

abbrev pub invariant-loop-row : goal.invariant-loop-row
invariant-loop-row l = nth_of (offsets_at l.s l.model (l.begin + 12 * l.row) (l.count - l.row)) l.before ≡ nth_of (offsets_at l.s l.model l.begin l.count) l.k
