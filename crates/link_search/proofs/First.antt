-- In a list that ascends, where the test 'below T' parts it, stands the first T, if there is one.
use mathlib.Core.Path.{◌≡◌, refl, sym, ap, ◌∙◌, subst}
use mathlib.Core.Bool.{Bool, true, false}
use mathlib.Core.List.{List, [], ◌∷◌}
use Prim.Native.Nat.{ℕ, zero, suc, ◌+◌, ◌^◌, ◌≤◌, ◌<◌}
use native.Mathlib.Decide.{dec_lt}
use native.Mathlib.Omega.{arith}
use borrow.Author.Tests.{lt-ltb, ltb-true, ltb-false, eq-eqb, ne_eqb}
use lib.Dec.{ltb, eqb}
use lib.ListN.{length, get_or}
use Rattle.std.specs.Prelude.{Some, None}
use Rattle.link_order.specs.Keys.{key_of}
use Rattle.link_order.proofs.Keys.{then_le}
use Rattle.link_sort.proofs.Index.{length-sorted, sorted_rises}
use Rattle.link_search.specs.Found.{first_from}
use Rattle.link_search.specs.Index.{Ascends}
use Rattle.link_search.specs.Parted.{Falls, Parted}

module _ (p : ℕ → Bool) where
  pub first_is : (k : ℕ) (l : List ℕ) (r : ℕ) → r < length l → p (get_or l r 0) ≡ true → ((i : ℕ) → i < r → p (get_or l i 0) ≡ false) → first_from p k l ≡ Some (k + r)
  unfolding first_from
  first_is k [] r h t f = absurd (omega arith)
  first_is k (x ∷ l) zero h t f = let e : k ≡ k + 0 = omega arith in rw t (ap Some e)
  first_is k (x ∷ l) (suc r) h t f =
      let e : suc k + r ≡ k + suc r = omega arith in
      rw (f 0 (omega arith)) (first_is (suc k) l r (omega arith) t (λ i q. f (suc i) (omega arith)) ∙ ap Some e)

  pub first_none : (k : ℕ) (l : List ℕ) → ((i : ℕ) → i < length l → p (get_or l i 0) ≡ false) → first_from p k l ≡ None
  unfolding first_from
  first_none k [] f = refl
  first_none k (x ∷ l) f = rw (f 0 (omega arith)) (first_none (suc k) l (λ i h. f (suc i) (omega arith)))

module _ (t : List ℕ) (a : Ascends t) (small : (i : ℕ) → get_or t i 0 < 2 ^ 64) where
  rises : (i j : ℕ) → i ≤ j → j < length t → get_or t i 0 ≤ get_or t j 0
  rises i j h k =
      let e : length t ≡ length a.of = ap length a.is ∙ length-sorted (key_of (λ x. 0)) a.of in
      let r : key_of (λ x. 0) (get_or t i 0) ≤ key_of (λ x. 0) (get_or t j 0) =
      subst (λ (l : List ℕ). key_of (λ x. 0) (get_or l i 0) ≤ key_of (λ x. 0) (get_or l j 0)) (sym a.is) (sorted_rises (key_of (λ x. 0)) a.of i j h (omega arith)) in
      then_le (λ x. 0) (get_or t i 0) (get_or t j 0) (small i) (small j) r refl

  pub ascend_falls : (T : ℕ) → Falls (λ e. ltb e T) t
  ascend_falls T i j h k e = lt-ltb (get_or t i 0) T (omega (arith, ltb-true (get_or t j 0) T e, rises i j h k))

  module _ (T r : ℕ) (p : Parted (λ e. ltb e T) t r) where
    front : (i : ℕ) → i < r → eqb (get_or t i 0) T ≡ false
    front i h = ne_eqb (get_or t i 0) T (λ e. omega (arith, ltb-true (get_or t i 0) T (p.front i h)))

    pub first_found : r < length t → get_or t r 0 ≡ T → first_from (λ x. eqb x T) 0 t ≡ Some r
    first_found h e = let z : 0 + r ≡ r = omega arith in first_is (λ x. eqb x T) 0 t r h (eq-eqb (get_or t r 0) T e) front ∙ ap Some z

    pub first_other : (r < length t → get_or t r 0 ≡ T → ⊥) → first_from (λ x. eqb x T) 0 t ≡ None
    first_other d = first_none (λ x. eqb x T) 0 t (λ i h. pick i h (dec_lt i r))
      where
        pick : (i : ℕ) → i < length t → Dec (i < r) → eqb (get_or t i 0) T ≡ false
        pick i h (yes l) = front i l
        pick i h (no l) =
            ne_eqb (get_or t i 0) T
            (λ e.
            let u = ltb-false (get_or t r 0) T (p.behind r (omega arith) (omega arith)) in
            d (omega arith) (omega (arith, rises r i (omega arith) h)))
