-- The rules on values: means that are judged good are finite (35), variances finite and above zero (36), both ways, of values that are whole entries.
use mathlib.Core.Path.{◌≡◌, refl, sym, ap, ◌∙◌}
use mathlib.Core.Bool.{Bool, true, false, cond, true≢false}
use mathlib.Core.List.{List}
use Prim.Native.Nat.{ℕ, suc, ◌+◌, ◌*◌, ◌/◌, ◌≤◌, ◌<◌}
use native.Mathlib.Nat.{mul-div_cancel_left, mul_comm, suc-mul, mul-le-mul_right, lt_of_mul-lt-mul_right}
use native.Mathlib.Omega.{arith}
use borrow.Author.Tests.{ltb-true, lt-ltb, eqb-true, eq-eqb}
use lib.Dec.{ltb, eqb}
use lib.ListN.{length, get_or}
use Rattle.written.specs.Linking.{Nth}
use Rattle.written.specs.House.{Finite, AboveZero}
use Rattle.written_house.proofs.Housed.{finite_below, below_finite, above_zero_below, below_above_zero}
use Rattle.laws.specs.Every as every
use Rattle.laws.proofs.Every.{both, first_of, second_of, all_each, each_all}
use Rattle.laws.proofs.Nth.{nth_inside}
use Rattle.table_rows.proofs.Stand.{nth_at}
use Rattle.written.proofs.Walk.{nth_once}
use Rattle.house_values.specs.Values.{good_mean, good_variance, good_value, bit, pair_good, pairs_good, entry_good, values_good}

mean_so : (v : ℕ) → good_mean v ≡ true → Finite v
mean_so v e = below_finite v (ltb-true _ _ e)

so_mean : (v : ℕ) → Finite v → good_mean v ≡ true
so_mean v f = lt-ltb _ _ (finite_below v f)

variance_so : (v : ℕ) → good_variance v ≡ true → AboveZero v
variance_so v e = below_above_zero v (ltb-true 0 v (first_of (ltb 0 v) (ltb v 9218868437227405312) e)) (ltb-true v 9218868437227405312 (second_of (ltb 0 v) (ltb v 9218868437227405312) e))

so_variance : (v : ℕ) → AboveZero v → good_variance v ≡ true
so_variance v f = let k = above_zero_below v f in both (lt-ltb 0 v k.0) (lt-ltb v _ k.1)

-- the rule of a place in a pair
abbrev pub Rule : Bool → ℕ → Type 0
Rule true = AboveZero
Rule false = Finite

rule_so : (b : Bool) (v : ℕ) → good_value b v ≡ true → Rule b v
rule_so true v e = variance_so v e
rule_so false v e = mean_so v e

so_rule : (b : Bool) (v : ℕ) → Rule b v → good_value b v ≡ true
so_rule true v e = so_variance v e
so_rule false v e = so_mean v e

bit_small : (b : Bool) → bit b ≤ 1
bit_small true = omega arith
bit_small false = omega arith

-- so many entries of width w
module _ (b : Bool) (w n : ℕ) (vs : List ℕ) (whole : length vs ≡ n * w) where
  -- the place of a pair's value in entry i
  abbrev pub place : ℕ → ℕ → ℕ
  place i k = i * w + bit b + 2 * k

  entries : ¬ (w ≡ 0) → length vs / w ≡ n
  entries z = ap (λ (m : ℕ). m / w) (whole ∙ mul_comm n w) ∙ mul-div_cancel_left n (let p : 0 < w = omega (arith, z) in p)

  pub good_each : values_good b w vs ≡ true → (i k v : ℕ) → k < w / 2 → Nth vs (place i k) v → Rule b v
  unfolding values_good pairs_good
  good_each e i k v l x = go (eqb w 0) refl e
    where
      go : (c : Bool) → eqb w 0 ≡ c → cond c true (every.all (entry_good b w vs) 0 (length vs / w)) ≡ true → Rule b v
      go true q f = absurd (omega (arith, eqb-true w 0 q, l))
      go false q f =
          let z : ¬ (w ≡ 0) = λ h. true≢false (sym (eq-eqb w 0 h) ∙ q) in
          let inside : i < n = entry_below i k (nth_inside x) in
          let g = all_each (entry_good b w vs) 0 (length vs / w) f i (omega arith) (omega (arith, entries z)) in
          let h = all_each (pair_good b vs (i * w + bit b)) 0 (w / 2) g k (omega arith) (omega arith) in
          rule_so b v (ap (good_value b) (sym (nth_is x)) ∙ h)
        where
          nth_is : {p u : ℕ} → Nth vs p u → get_or vs p 0 ≡ u
          nth_is {p} y = nth_once (nth_at vs p 0 (nth_inside y)) y

          entry_below : (i k : ℕ) → place i k < length vs → i < n
          entry_below i k h = below (omega (arith, whole))
            where
              below : i * w < n * w → i < n
              below h = lt_of_mul-lt-mul_right w h

  pub each_good : ((i k v : ℕ) → k < w / 2 → Nth vs (place i k) v → Rule b v) → values_good b w vs ≡ true
  unfolding values_good pairs_good
  each_good f = go (eqb w 0) refl
    where
      go : (c : Bool) → eqb w 0 ≡ c → cond c true (every.all (entry_good b w vs) 0 (length vs / w)) ≡ true
      go true q = refl
      go false q =
          let z : ¬ (w ≡ 0) = λ h. true≢false (sym (eq-eqb w 0 h) ∙ q) in
          each_all (entry_good b w vs) 0 (length vs / w)
          (λ i a l. each_all (pair_good b vs (i * w + bit b)) 0 (w / 2)
          (λ k c m. so_rule b _ (f i k _ (omega arith) (nth_at vs (place i k) 0 (inside i k (omega (arith, entries z)) (omega arith))))))
        where
          inside : (i k : ℕ) → i < n → k < w / 2 → place i k < length vs
          inside i k l m =
              let e : suc i * w ≡ i * w + w = suc-mul i w in
              let h : suc i * w ≤ n * w = mul-le-mul_right w (let u : suc i ≤ n = omega arith in u) in
              omega (arith, whole, bit_small b)
