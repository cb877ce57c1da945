-- The laws of a product up to its limit without wrapping, and of a range in the data.
use mathlib.Core.Path.{◌≡◌, ap, ◌∙◌}
use mathlib.Core.Bool.{and-false}
use Prim.Native.Nat.{ℕ, ◌+◌, ◌*◌, ◌≤◌, ◌<◌, min}
use native.Mathlib.Nat.{zero-mul, mul-zero, mul_comm, mul-le-mul, le-mul_of_pos_right}
use native.Mathlib.Omega.{arith}
use borrow.Author.Tests.{le-leb, lt-leb}
use lib.Dec.{leb}
use Rattle.load_range.specs.Ranges.{bounds, within_of}
use Rattle.std.specs.Prelude.{None}

-- ---- a product

module _ (a b : ℕ) where
  pub none_left : a ≡ 0 → min (a * b) 4097 ≡ 0
  none_left h = let e : a * b ≡ 0 = ap (λ (x : ℕ). x * b) h ∙ zero-mul b in omega arith

  pub none_right : b ≡ 0 → min (a * b) 4097 ≡ 0
  none_right h = let e : a * b ≡ 0 = ap (λ (x : ℕ). a * x) h ∙ mul-zero a in omega arith

  pub large_left : 4096 < a → 0 < b → min (a * b) 4097 ≡ 4097
  large_left h k = let l : a ≤ a * b = le-mul_of_pos_right {m = b} a k in omega arith

  pub large_right : 0 < a → 4096 < b → min (a * b) 4097 ≡ 4097
  large_right h k = let l : b ≤ b * a = le-mul_of_pos_right {m = a} b h in let e : b * a ≡ a * b = mul_comm b a in omega arith

  pub small : a ≤ 4096 → b ≤ 4096 → a * b ≤ 16777216
  small h k = mul-le-mul {n₁ = a} {m₁ = b} {n₂ = 4096} {m₂ = 4096} h k

-- ---- a range

module _ (a b n : ℕ) where
  pub starts_behind : b + 1 < a → None ≡ within_of a b n
  unfolding within_of
  starts_behind h = rw (lt-leb a (b + 1) h)

  pub ends_behind : n ≤ b → None ≡ within_of a b n
  unfolding within_of
  ends_behind h = let k : n < b + 1 = omega arith in rw (lt-leb (b + 1) n k, and-false (leb a (b + 1)))

  pub stands_inside : a ≤ b + 1 → b < n → bounds a (b + 1) ≡ within_of a b n
  unfolding within_of
  stands_inside h k = let l : b + 1 ≤ n = omega arith in rw (le-leb a (b + 1) h, le-leb (b + 1) n l)
