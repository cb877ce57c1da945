-- The cases of `widenFields`, over the sizes of the fields.
use mathlib.Core.Path.{◌≡◌}
use Prim.Native.Nat.{ℕ, ◌+◌, ◌-◌, ◌*◌, ◌^◌}
use borrow.Author.Tests.{eq-eqb, ne_eqb}
use lib.Count.{count_leading_zeros}
use Rattle.written.specs.Interchange.{bias, join, quiet}
use Rattle.pdf_widen.specs.Widening.{normalised, widen_fields}

module _ (e f d g s x t : ℕ) where
  pub wide_infinite : x ≡ 2 ^ e - 1 → t ≡ 0 → widen_fields e f d g s x t ≡ join d g s (2 ^ d - 1) 0
  unfolding widen_fields
  wide_infinite hx ht = simp (eq-eqb x (2 ^ e - 1) hx, eq-eqb t 0 ht)

  pub wide_nan : x ≡ 2 ^ e - 1 → (t ≡ 0 → ⊥) → widen_fields e f d g s x t ≡ join d g s (2 ^ d - 1) (quiet f g t)
  unfolding widen_fields
  wide_nan hx ht = simp (eq-eqb x (2 ^ e - 1) hx, ne_eqb t 0 ht)

  pub wide_zero : (x ≡ 2 ^ e - 1 → ⊥) → x ≡ 0 → t ≡ 0 → widen_fields e f d g s x t ≡ join d g s 0 0
  unfolding widen_fields
  wide_zero hx h0 ht = simp (ne_eqb x (2 ^ e - 1) hx, eq-eqb x 0 h0, eq-eqb t 0 ht)

  pub wide_subnormal : (x ≡ 2 ^ e - 1 → ⊥) → x ≡ 0 → (t ≡ 0 → ⊥) → widen_fields e f d g s x t ≡ normalised e f d g s t (count_leading_zeros (f + 1) t)
  unfolding widen_fields
  wide_subnormal hx h0 ht = simp (ne_eqb x (2 ^ e - 1) hx, eq-eqb x 0 h0, ne_eqb t 0 ht)

  pub wide_normal : (x ≡ 2 ^ e - 1 → ⊥) → (x ≡ 0 → ⊥) → widen_fields e f d g s x t ≡ join d g s (x + (bias d - bias e)) (t * 2 ^ (g - f))
  unfolding widen_fields
  wide_normal hx h0 = simp (ne_eqb x (2 ^ e - 1) hx, ne_eqb x 0 h0)
