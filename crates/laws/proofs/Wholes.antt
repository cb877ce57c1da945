-- The test `eqZ`, and what the machine tests: whether the bits of two signed numbers are the same.
use mathlib.Core.Path.{◌≡◌, refl, sym, ap, ◌∙◌}
use mathlib.Core.Bool.{true, false}
use Prim.Native.Nat.{ℕ, ◌^◌, ◌<◌}
use native.Mathlib.Omega.{arith}
use borrow.Author.Tests.{eq-eqb, ne_eqb, eqb-true}
use lib.Dec.{eqb}
use lib.IntN.{ℤ, pos, negsuc, ℤ_discrete}
use lib.Signed.{mag}
use mir.Syntax.{w64}
use mir.Val.{to_z, of_z, hbits}
use Rattle.laws.specs.Wholes.{eq_z}
use Rattle.laws.proofs.Signed.{back}

eq_z-refl : (a : ℤ) → eq_z a a ≡ true
unfolding eq_z
eq_z-refl (pos a) = eq-eqb a a refl
eq_z-refl (negsuc a) = eq-eqb a a refl

pub eq-eq_z : (a b : ℤ) → a ≡ b → eq_z a b ≡ true
eq-eq_z a b e = rw e (eq_z-refl b)

pub ne-eq_z : (a b : ℤ) → (a ≡ b → ⊥) → eq_z a b ≡ false
unfolding eq_z
ne-eq_z (pos a) (pos b) n = ne_eqb a b (λ e. n (ap pos e))
ne-eq_z (pos a) (negsuc b) n = refl
ne-eq_z (negsuc a) (pos b) n = refl
ne-eq_z (negsuc a) (negsuc b) n = ne_eqb a b (λ e. n (ap negsuc e))

pub eq_z-true : (a b : ℤ) → eq_z a b ≡ true → a ≡ b
unfolding eq_z
eq_z-true (pos a) (pos b) e = ap pos (eqb-true a b e)
eq_z-true (pos a) (negsuc b) e = let u : ◌≡◌ {A = ℕ} 0 1 = cc in absurd (omega arith)
eq_z-true (negsuc a) (pos b) e = let u : ◌≡◌ {A = ℕ} 0 1 = cc in absurd (omega arith)
eq_z-true (negsuc a) (negsuc b) e = ap negsuc (eqb-true a b e)

-- two numbers that fit 64 bits are the same where their bits are
pub same_bits : (a b : ℤ) → mag a < 2 ^ hbits w64 → mag b < 2 ^ hbits w64 → eqb (of_z w64 a) (of_z w64 b) ≡ eq_z a b
same_bits a b f g = go (ℤ_discrete a b)
  where
    go : Dec (a ≡ b) → eqb (of_z w64 a) (of_z w64 b) ≡ eq_z a b
    go (yes e) = eq-eqb (of_z w64 a) (of_z w64 b) (ap (of_z w64) e) ∙ sym (eq-eq_z a b e)
    go (no n) = ne_eqb (of_z w64 a) (of_z w64 b) (λ h. n (sym (back a f) ∙ ap (to_z w64) h ∙ back b g)) ∙ sym (ne-eq_z a b n)
