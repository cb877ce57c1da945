-- A fraction t moved up by its leading zeros: its highest digit stands where the hidden digit does. Over the size of the field.
--
use mathlib.Core.Path.{◌≡◌, sym, ap, ◌∙◌, subst}
use Prim.Native.Nat.{ℕ, suc, ◌+◌, ◌*◌, ◌^◌, ◌≤◌, ◌<◌}
use native.Mathlib.Nat.{lt_of_lt_of_le, mul-le-mul_right, mul-lt-mul_of_pos_right}
use native.Mathlib.Omega.{arith}
use lib.Pow.{pow_pos, pow_mono, pow-add}
use lib.Count.{count_leading_zeros, leading_top, leading_length, leading_unique}

-- a number of k digits has d leading zeros more in k + d digits
pub leading_more : (k d t : ℕ) → t < 2 ^ k → count_leading_zeros k t + d ≡ count_leading_zeros (k + d) t
leading_more k d t h =
    let s = leading_length k t h in
    let whole : count_leading_zeros k t + d + s.0 ≡ k + d = omega (arith, s.1) in
    leading_unique (k + d) t (count_leading_zeros k t + d) s.0 whole s.2 s.3

pub record Normal (f t z : ℕ) : Type 0 where
  pub small : z ≤ f
  pub above : 2 ^ f ≤ t * 2 ^ z
  pub below : t * 2 ^ z < 2 ^ f + 2 ^ f

double : (f : ℕ) → 2 ^ (f + 1) ≡ 2 ^ f + 2 ^ f
double f = let p = pow-add 2 f 1 in omega arith

pub normal : (f t : ℕ) → 0 < t → t < 2 ^ f → Normal f t (count_leading_zeros (f + 1) t)
normal f t p h =
    let z : ℕ = count_leading_zeros (f + 1) t in
    let s = leading_top (f + 1) t p (lt_of_lt_of_le h (pow_mono (omega arith))) in
    let j : ℕ = s.0 in
    let e : j + z ≡ f = omega (arith, s.1) in
    let e1 : suc j + z ≡ f + 1 = omega (arith, s.1) in
    let lo : 2 ^ (j + z) ≤ t * 2 ^ z = subst (λ (x : ℕ). x ≤ t * 2 ^ z) (sym (pow-add 2 j z)) (mul-le-mul_right (2 ^ z) s.2) in
    let hi : t * 2 ^ z < 2 ^ (suc j + z) =
    subst (λ (x : ℕ). t * 2 ^ z < x) (sym (pow-add 2 (suc j) z)) (mul-lt-mul_of_pos_right s.3 (pow_pos z)) in
    record {
      small = omega (arith, s.1);
      above = subst (λ (x : ℕ). 2 ^ x ≤ t * 2 ^ z) e lo;
      below = subst (λ (x : ℕ). t * 2 ^ z < x) (ap (λ (x : ℕ). 2 ^ x) e1 ∙ double f) hi;
    }
