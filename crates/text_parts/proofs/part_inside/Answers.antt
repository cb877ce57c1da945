-- `text_parts::part_inside` meets its contract.
use mathlib.Core.Path.{◌≡◌}
use mathlib.Core.List.{List, []}
use Prim.Native.Nat.{ℕ, ◌+◌, ◌-◌, ◌≤◌, ◌<◌}
use native.Mathlib.Omega.{arith}
use borrow.Author.Tests.{le-leb, lt-leb}
use lib.ListN.{length, take, drop}
use Rattle.text_parts.specs.Parts.{part_inside}
use Rattle.text_parts.proofs.part_inside.Goals as goal

module _ (s : List ℕ) (i n : ℕ) where
  past : length s < i → [] ≡ part_inside s i n
  unfolding part_inside
  past h = rw (lt-leb i (length s) h)

  long : i ≤ length s → length s - i < n → [] ≡ part_inside s i n
  unfolding part_inside
  long h k = rw (le-leb i (length s) h, lt-leb n (length s - i) k)

  inside : i ≤ length s → n ≤ length s - i → take (i + n - i) (drop i s) ≡ part_inside s i n
  unfolding part_inside
  inside h k = let e : i + n - i ≡ n = omega arith in rw (e, le-leb i (length s) h, le-leb n (length s - i) k)

pub returns-then-all-start : goal.returns-then-all-start
returns-then-all-start c = past _ _ _ c.if-all-start.true

pub returns-then-all-start-2 : goal.returns-then-all-start-2
returns-then-all-start-2 c = long _ _ _ c.if-all-start.false c.if-all-start-2.true

pub returns : goal.returns
returns c = inside _ _ _ c.if-all-start.false c.if-all-start-2.false
