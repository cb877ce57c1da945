-- In an index, where the test 'up to T' parts it, stands the last number that f sends to T, if there is one.
use mathlib.Core.Path.{◌≡◌, refl, sym, ap, ◌∙◌, subst}
use mathlib.Core.Bool.{Bool, true, false, cond}
use mathlib.Core.Logic.{◌⊎◌, inl, inr}
use mathlib.Core.List.{List}
use Prim.Native.Nat.{ℕ, zero, suc, ◌+◌, ◌-◌, ◌^◌, ◌≤◌, ◌<◌}
use native.Mathlib.Decide.{dec_lt}
use native.Mathlib.Omega.{arith}
use borrow.Author.Tests.{le-leb, leb-true, leb-false, eq-eqb, ne_eqb}
use lib.Dec.{leb, eqb}
use lib.ListN.{length, get_or}
use Rattle.std.specs.Prelude.{Some, None}
use Rattle.link_order.specs.Keys.{key_of}
use Rattle.link_order.proofs.Keys.{first_le, then_le}
use Rattle.link_sort.proofs.Order.{le_or_lt}
use Rattle.link_sort.proofs.Index.{sorted_has, sorted_from, sorted_rises}
use Rattle.link_search.specs.Found.{last_below, count_from}
use Rattle.link_search.specs.Index.{Index}
use Rattle.link_search.specs.Parted.{Falls, Parted}

-- ---- 0, 1, ..

pub length-count : (k n : ℕ) → length (count_from k n) ≡ n
unfolding count_from
length-count k zero = refl
length-count k (suc n) = ap suc (length-count (suc k) n)

pub count_at : (k n i : ℕ) → i < n → get_or (count_from k n) i 0 ≡ k + i
unfolding count_from
count_at k zero i h = absurd (omega arith)
count_at k (suc n) zero h = omega arith
count_at k (suc n) (suc i) h = count_at (suc k) n i (omega arith) ∙ (let e : suc k + i ≡ k + suc i = omega arith in e)

-- ---- the last number of which a test is true

module _ (p : ℕ → Bool) where
  pub last_is_lem : (n e : ℕ) → e < n → p e ≡ true → ((m : ℕ) → e < m → m < n → p m ≡ false) → last_below p n ≡ Some e
  unfolding last_below
  last_is_lem zero e h t f = absurd (omega arith)
  last_is_lem (suc n) e h t f = go (dec_lt e n) (λ l. last_is_lem n e l t (λ m a b. f m a (omega arith)))
    where
      go : Dec (e < n) → (e < n → last_below p n ≡ Some e) → cond (p n) (Some n) (last_below p n) ≡ Some e
      go (yes l) r = rw (f n l (omega arith)) (r l)
      go (no l) r = let q : e ≡ n = omega arith in subst (λ (k : ℕ). cond (p k) (Some k) (last_below p k) ≡ Some e) q (rw t)

  pub last_none : (n : ℕ) → ((m : ℕ) → m < n → p m ≡ false) → last_below p n ≡ None
  unfolding last_below
  last_none zero f = refl
  last_none (suc n) f = rw (f n (omega arith)) (last_none n (λ m l. f m (omega arith)))

pub last_ext : (p q : ℕ → Bool) (n : ℕ) → ((m : ℕ) → p m ≡ q m) → last_below p n ≡ last_below q n
unfolding last_below
last_ext p q zero e = refl
last_ext p q (suc n) e = rw (e n, last_ext p q n e)

-- ---- in an index

module _ (f : ℕ → ℕ) (t : List ℕ) (x : Index f t) (small : length t < 2 ^ 64) where
  n : ℕ
  n = length t

  same_length : length (count_from 0 (length t)) ≡ length t
  same_length = length-count 0 (length t)

  -- every number below the length stands in it, and nothing else
  has : (m : ℕ) → m < length t → (j : ℕ) × (j < length t) × (get_or t j 0 ≡ m)
  has m h =
      let s = sorted_has (key_of f) (count_from 0 (length t)) m (omega (arith, same_length)) in
      (s.0, omega (arith, s.1, same_length), ap (λ (l : List ℕ). get_or l s.0 0) x.is ∙ s.2 ∙ count_at 0 (length t) m h ∙ (let e : 0 + m ≡ m = omega arith in e))

  below : (j : ℕ) → j < length t → get_or t j 0 < length t
  below j h =
      let s = sorted_from (key_of f) (count_from 0 (length t)) j (omega (arith, same_length)) in
      omega (arith, ap (λ (l : List ℕ). get_or l j 0) x.is, s.2, count_at 0 (length t) s.0 (omega (arith, s.1, same_length)), s.1, same_length)

  rises : (i j : ℕ) → i ≤ j → j < length t → key_of f (get_or t i 0) ≤ key_of f (get_or t j 0)
  rises i j h k =
      subst (λ (l : List ℕ). key_of f (get_or l i 0) ≤ key_of f (get_or l j 0)) (sym x.is)
      (sorted_rises (key_of f) (count_from 0 (length t)) i j h (omega (arith, same_length)))

  f_rises : (i j : ℕ) → i ≤ j → j < length t → f (get_or t i 0) ≤ f (get_or t j 0)
  f_rises i j h k = first_le f (get_or t i 0) (get_or t j 0) (omega (arith, below i (omega arith))) (omega (arith, below j k)) (rises i j h k)

  pub index_falls : (T : ℕ) → Falls (λ e. leb (f e) T) t
  index_falls T i j h k e = le-leb (f (get_or t i 0)) T (omega (arith, leb-true (f (get_or t j 0)) T e, f_rises i j h k))

  module _ (T r : ℕ) (p : Parted (λ e. leb (f e) T) t r) where
    -- what f sends to T stands in the front
    front : (m : ℕ) → m < length t → f m ≡ T → (j : ℕ) × (j < r) × (get_or t j 0 ≡ m)
    front m h e =
        let s = has m h in
        (s.0, go (dec_lt s.0 r), s.2)
      where
        go : Dec ((has m h).0 < r) → (has m h).0 < r
        go (yes l) = l
        go (no l) =
            let s = has m h in
            let u : leb (f (get_or t s.0 0)) T ≡ false = p.behind s.0 (omega arith) s.1 in
            absurd (omega (arith, leb-false (f (get_or t s.0 0)) T u, ap f s.2))

    pub index_empty : r ≡ 0 → last_below (λ k. eqb (f k) T) (length t) ≡ None
    index_empty z = last_none (λ k. eqb (f k) T) (length t) (λ m h. ne_eqb (f m) T (λ e. omega (arith, (front m h e).1)))

    pub index_found : 0 < r → f (get_or t (r - 1) 0) ≡ T → last_below (λ k. eqb (f k) T) (length t) ≡ Some (get_or t (r - 1) 0)
    index_found z e =
        last_is_lem (λ k. eqb (f k) T) (length t) (get_or t (r - 1) 0) (below (r - 1) (omega (arith, p.within))) (eq-eqb (f (get_or t (r - 1) 0)) T e)
        (λ m l h. ne_eqb (f m) T (λ q. later m l h q))
      where
        later : (m : ℕ) → get_or t (r - 1) 0 < m → m < length t → f m ≡ T → ⊥
        later m l h q =
            let s = front m h q in
            let k = rises s.0 (r - 1) (omega (arith, s.1)) (omega (arith, p.within)) in
            let b = below (r - 1) (omega (arith, p.within)) in
            let k2 : key_of f m ≤ key_of f (get_or t (r - 1) 0) = subst (λ (y : ℕ). key_of f y ≤ key_of f (get_or t (r - 1) 0)) s.2 k in
            omega (arith, then_le f m (get_or t (r - 1) 0) (omega arith) (omega arith) k2 (q ∙ sym e))

    pub index_other : 0 < r → (f (get_or t (r - 1) 0) ≡ T → ⊥) → last_below (λ k. eqb (f k) T) (length t) ≡ None
    index_other z d =
        last_none (λ k. eqb (f k) T) (length t)
        (λ m h. ne_eqb (f m) T
        (λ q.
        let s = front m h q in
        let k = f_rises s.0 (r - 1) (omega (arith, s.1)) (omega (arith, p.within)) in
        let u = leb-true (f (get_or t (r - 1) 0)) T (p.front (r - 1) (omega arith)) in
        d (omega (arith, ap f s.2))))

-- what is found is below n
pub last_inside : (p : ℕ → Bool) (n e : ℕ) → last_below p n ≡ Some e → e < n
unfolding last_below
last_inside p zero e h = let u : ◌≡◌ {A = ℕ} 0 1 = cc in absurd (omega arith)
last_inside p (suc n) e h = go (p n) h (last_inside p n e)
  where
    go : (b : Bool) → cond b (Some n) (last_below p n) ≡ Some e → (last_below p n ≡ Some e → e < n) → e < suc n
    go true q r = let s : n ≡ e = cc in omega arith
    go false q r = omega (arith, r q)

pub last_ext_below : (p q : ℕ → Bool) (n : ℕ) → ((m : ℕ) → m < n → p m ≡ q m) → last_below p n ≡ last_below q n
unfolding last_below
last_ext_below p q zero e = refl
last_ext_below p q (suc n) e = rw (e n (omega arith), last_ext_below p q n (λ m h. e m (omega arith)))

-- ---- what a search has found, or not

pub last_found : (p : ℕ → Bool) (n k : ℕ) → last_below p n ≡ Some k → (k < n) × (p k ≡ true) × ((m : ℕ) → k < m → m < n → p m ≡ false)
unfolding last_below
last_found p zero k e = let u : ◌≡◌ {A = ℕ} 0 1 = cc in absurd (omega arith)
last_found p (suc n) k e = go (p n) refl e (last_found p n k)
  where
    go : (b : Bool) → p n ≡ b → cond b (Some n) (last_below p n) ≡ Some k → (last_below p n ≡ Some k → (k < n) × (p k ≡ true) × ((m : ℕ) → k < m → m < n → p m ≡ false))
        → (k < suc n) × (p k ≡ true) × ((m : ℕ) → k < m → m < suc n → p m ≡ false)
    go true q e r = let z : n ≡ k = cc in (omega arith, ap p (sym z) ∙ q, λ m a b. absurd (omega arith))
    go false q e r = (omega (arith, (r e).0), (r e).1, λ m a b. pick m (le_or_lt n m) a b)
      where
        pick : (m : ℕ) → (n ≤ m) ⊎ (m < n) → k < m → m < suc n → p m ≡ false
        pick m (inr l) a b = (r e).2 m a l
        pick m (inl l) a b = let z : m ≡ n = omega arith in ap p z ∙ q

pub last_missing : (p : ℕ → Bool) (n : ℕ) → last_below p n ≡ None → (m : ℕ) → m < n → p m ≡ false
unfolding last_below
last_missing p zero e m h = absurd (omega arith)
last_missing p (suc n) e m h = go (p n) refl e (λ q. last_missing p n q m)
  where
    go : (b : Bool) → p n ≡ b → cond b (Some n) (last_below p n) ≡ None → (last_below p n ≡ None → m < n → p m ≡ false) → p m ≡ false
    go true q e r = let u : ◌≡◌ {A = ℕ} 0 1 = cc in absurd (omega arith)
    go false q e r = pick (le_or_lt n m)
      where
        pick : (n ≤ m) ⊎ (m < n) → p m ≡ false
        pick (inr l) = r e l
        pick (inl l) = let z : m ≡ n = omega arith in ap p z ∙ q
