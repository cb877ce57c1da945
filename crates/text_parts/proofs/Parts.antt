-- Where a part of a text ends.
use mathlib.Core.List.{List}
use Prim.Native.Nat.{ℕ, ◌+◌, ◌≤◌, ◌<◌}
use native.Mathlib.Omega.{arith}
use lib.ListN.{length, drop, length-take, length-drop}
use Rattle.written.specs.Bytes.{part}

-- a part that has a byte ends inside
pub part_in : (s : List ℕ) (a n : ℕ) → 0 < length (part s a n) → a + length (part s a n) ≤ length s
part_in s a n h = omega (arith, length-take n (drop a s), length-drop a s)
