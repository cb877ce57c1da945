-- Signed numbers as the machine has them: a number read back from its bits, the test for a negative one, and `!` of it.
use mathlib.Core.Path.{◌≡◌, refl, ap, ◌∙◌}
use mathlib.Core.Bool.{true, false}
use Prim.Native.Nat.{ℕ, suc, ◌-◌, ◌^◌, ◌<◌}
use native.Mathlib.Omega.{arith}
use borrow.Author.Tests.{ltb-true}
use borrow.Author.Rules.{sfits_of}
use lib.IntN.{ℤ, pos, negsuc}
use lib.Signed.{mag, lt_z}
use mir.Syntax.{w64}
use mir.Val.{to_z, of_z, hbits}
use mir.ValLaws.{to_z-of_z, to_z_pos}

pub back : (z : ℤ) → mag z < 2 ^ hbits w64 → to_z w64 (of_z w64 z) ≡ z
back z h = to_z-of_z w64 z (sfits_of h)

module _ (z : ℤ) (h : mag z < 2 ^ hbits w64) where
  pub negative : lt_z (to_z w64 (of_z w64 z)) (pos 0) ≡ true → (n : ℕ) × (z ≡ negsuc n) × (n < 9223372036854775808)
  negative e = go z h (rw (back z h) at e)
    where
      go : (z : ℤ) → mag z < 2 ^ hbits w64 → lt_z z (pos 0) ≡ true → (n : ℕ) × (z ≡ negsuc n) × (n < 9223372036854775808)
      go (pos n) h e = absurd (omega (arith, ltb-true n 0 e))
      go (negsuc n) h e = (n, refl, h)

  pub not_negative : lt_z (to_z w64 (of_z w64 z)) (pos 0) ≡ false → (n : ℕ) × (z ≡ pos n) × (n < 9223372036854775808)
  not_negative e = go z h (rw (back z h) at e)
    where
      go : (z : ℤ) → mag z < 2 ^ hbits w64 → lt_z z (pos 0) ≡ false → (n : ℕ) × (z ≡ pos n) × (n < 9223372036854775808)
      go (pos n) h e = (n, refl, h)
      go (negsuc n) h e = let u : ◌≡◌ {A = ℕ} 0 1 = cc in absurd (omega arith)

-- `!z` of -(n + 1) is n
pub flipped : (n : ℕ) → n < 9223372036854775808 → to_z w64 (18446744073709551615 - of_z w64 (negsuc n)) ≡ pos n
flipped n h = let e : 18446744073709551615 - (2 ^ 64 - suc n) ≡ n = omega arith in ap (to_z w64) e ∙ to_z_pos w64 n h
