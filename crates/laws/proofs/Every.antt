-- A test at each number below n: the loop that tries them, and what the answer says.
use mathlib.Core.Path.{◌≡◌, refl, sym, ap, ap₂, ◌∙◌}
use mathlib.Core.Bool.{Bool, true, false, ◌&&◌, ◌||◌}
use native.Mathlib.Decide.{ℕ_discrete}
use Prim.Native.Nat.{ℕ, zero, suc, ◌+◌, ◌-◌, ◌≤◌, ◌<◌}
use native.Mathlib.Numerals.{add-one}
use native.Mathlib.Omega.{arith}
use Rattle.laws.specs.Every.{all, some}

-- ---- tests joined

pub both : {a b : Bool} → a ≡ true → b ≡ true → (a && b) ≡ true
both {a} {b} p q = ap₂ ◌&&◌ p q

pub first_of : (a b : Bool) → (a && b) ≡ true → a ≡ true
first_of true b e = refl
first_of false b e = e

pub second_of : (a b : Bool) → (a && b) ≡ true → b ≡ true
second_of true b e = e
second_of false b e = let u : ◌≡◌ {A = ℕ} 0 1 = cc in absurd (omega arith)

pub not_first : {a : Bool} (b : Bool) → a ≡ false → false ≡ (a && b)
not_first b e = sym (ap (λ (x : Bool). x && b) e)

pub then_second : {a b r : Bool} → a ≡ true → r ≡ b → r ≡ (a && b)
then_second {a} {b} e q = q ∙ sym (ap (λ (x : Bool). x && b) e)

-- ---- the loop

module _ (p : ℕ → Bool) where
  all_on : (k n : ℕ) → 0 < n → p k ≡ true → all p k n ≡ all p (k + 1) (n - 1)
  unfolding all
  all_on k zero h e = absurd (omega arith)
  all_on k (suc n) h e = let q : suc n - 1 ≡ n = omega arith in ap (λ (b : Bool). b && all p (suc k) n) e ∙ ap₂ (all p) (sym (add-one k)) (sym q)

  all_off : (k n : ℕ) → 0 < n → p k ≡ false → all p k n ≡ false
  unfolding all
  all_off k zero h e = absurd (omega arith)
  all_off k (suc n) h e = ap (λ (b : Bool). b && all p (suc k) n) e

  all_none : (k n : ℕ) → n ≡ 0 → all p k n ≡ true
  unfolding all
  all_none k zero h = refl
  all_none k (suc n) h = absurd (omega arith)

-- it is true below k
pub record Passing (p : ℕ → Bool) (n k : ℕ) : Type 0 where
  pub within : k ≤ n
  pub rest : all p k (n - k) ≡ all p 0 n

module _ (p : ℕ → Bool) (n : ℕ) where
  pub passing_none : Passing p n 0
  passing_none = let e : n - 0 ≡ n = omega arith in record { within = omega arith; rest = ap (all p 0) e }

  module _ (k : ℕ) (s : Passing p n k) where
    pub passing_on : k < n → p k ≡ true → Passing p n (k + 1)
    passing_on h e =
        let q : n - (k + 1) ≡ n - k - 1 = omega arith in record { within = omega arith; rest = ap (all p (k + 1)) q ∙ sym (all_on p k (n - k) (omega arith) e) ∙ s.rest }

    pub passing_off : k < n → p k ≡ false → false ≡ all p 0 n
    passing_off h e = sym (all_off p k (n - k) (omega arith) e) ∙ s.rest

    pub passing_end : n ≤ k → true ≡ all p 0 n
    passing_end h = sym (all_none p k (n - k) (omega arith)) ∙ s.rest

-- for the functions with such a loop
pub ruleset passing = (passing_on, passing_off, passing_end)

-- the same from a on
pub record Going (p : ℕ → Bool) (a n k : ℕ) : Type 0 where
  pub rest : all p k (n - k) ≡ all p a (n - a)

module _ (p : ℕ → Bool) (a n : ℕ) where
  pub going_none : Going p a n a
  going_none = record { rest = refl }

  module _ (k : ℕ) (s : Going p a n k) where
    pub going_on : k < n → p k ≡ true → Going p a n (k + 1)
    going_on h e = let q : n - (k + 1) ≡ n - k - 1 = omega arith in record { rest = ap (all p (k + 1)) q ∙ sym (all_on p k (n - k) (omega arith) e) ∙ s.rest }

    pub going_off : k < n → p k ≡ false → false ≡ all p a (n - a)
    going_off h e = sym (all_off p k (n - k) (omega arith) e) ∙ s.rest

    pub going_end : n ≤ k → true ≡ all p a (n - a)
    going_end h = sym (all_none p k (n - k) (omega arith)) ∙ s.rest

pub ruleset going = (going_on, going_off, going_end)

-- ---- what it says

module _ (p : ℕ → Bool) where
  pub all_each : (k n : ℕ) → all p k n ≡ true → (i : ℕ) → k ≤ i → i < k + n → p i ≡ true
  unfolding all
  all_each k zero e i l h = absurd (omega arith)
  all_each k (suc n) e i l h = go (ℕ_discrete k i) (λ f m. all_each (suc k) n f i m (omega arith))
    where
      go : Dec (k ≡ i) → (all p (suc k) n ≡ true → suc k ≤ i → p i ≡ true) → p i ≡ true
      go (yes q) r = ap p (sym q) ∙ first_of (p k) (all p (suc k) n) e
      go (no d) r = r (second_of (p k) (all p (suc k) n) e) (omega (arith, d))

  pub each_all : (k n : ℕ) → ((i : ℕ) → k ≤ i → i < k + n → p i ≡ true) → all p k n ≡ true
  unfolding all
  each_all k zero f = refl
  each_all k (suc n) f = both (f k (omega arith) (omega arith)) (each_all (suc k) n (λ i l h. f i (omega arith) (omega arith)))

-- ---- the loop that looks for one

module _ (p : ℕ → Bool) where
  some_on : (k n : ℕ) → 0 < n → p k ≡ false → some p k n ≡ some p (k + 1) (n - 1)
  unfolding some
  some_on k zero h e = absurd (omega arith)
  some_on k (suc n) h e = let q : suc n - 1 ≡ n = omega arith in ap (λ (b : Bool). b || some p (suc k) n) e ∙ ap₂ (some p) (sym (add-one k)) (sym q)

  some_here : (k n : ℕ) → 0 < n → p k ≡ true → some p k n ≡ true
  unfolding some
  some_here k zero h e = absurd (omega arith)
  some_here k (suc n) h e = ap (λ (b : Bool). b || some p (suc k) n) e

  some_none : (k n : ℕ) → n ≡ 0 → some p k n ≡ false
  unfolding some
  some_none k zero h = refl
  some_none k (suc n) h = absurd (omega arith)

-- it is false below k
pub record Seeking (p : ℕ → Bool) (n k : ℕ) : Type 0 where
  pub within : k ≤ n
  pub rest : some p k (n - k) ≡ some p 0 n

module _ (p : ℕ → Bool) (n : ℕ) where
  pub seeking_none : Seeking p n 0
  seeking_none = let e : n - 0 ≡ n = omega arith in record { within = omega arith; rest = ap (some p 0) e }

  module _ (k : ℕ) (s : Seeking p n k) where
    pub seeking_on : k < n → p k ≡ false → Seeking p n (k + 1)
    seeking_on h e =
        let q : n - (k + 1) ≡ n - k - 1 = omega arith in record { within = omega arith; rest = ap (some p (k + 1)) q ∙ sym (some_on p k (n - k) (omega arith) e) ∙ s.rest }

    pub seeking_here : k < n → p k ≡ true → true ≡ some p 0 n
    seeking_here h e = sym (some_here p k (n - k) (omega arith) e) ∙ s.rest

    pub seeking_end : n ≤ k → false ≡ some p 0 n
    seeking_end h = sym (some_none p k (n - k) (omega arith)) ∙ s.rest

pub ruleset seeking = (seeking_on, seeking_here, seeking_end)

-- ---- what it says

module _ (p : ℕ → Bool) where
  pub some_at : (k n : ℕ) → some p k n ≡ true → (i : ℕ) × (k ≤ i) × (i < k + n) × (p i ≡ true)
  unfolding some
  some_at k zero e = let u : ◌≡◌ {A = ℕ} 0 1 = cc in absurd (omega arith)
  some_at k (suc n) e = go (p k) refl e (some_at (suc k) n)
    where
      go : (b : Bool) → p k ≡ b → (b || some p (suc k) n) ≡ true → (some p (suc k) n ≡ true → (i : ℕ) × (suc k ≤ i) × (i < suc k + n) × (p i ≡ true))
          → (i : ℕ) × (k ≤ i) × (i < k + suc n) × (p i ≡ true)
      go true q e r = (k, omega arith, omega arith, q)
      go false q e r = let f = r e in (f.0, omega (arith, f.1), omega (arith, f.2), f.3)

  pub at_some : (k n i : ℕ) → k ≤ i → i < k + n → p i ≡ true → some p k n ≡ true
  unfolding some
  at_some k zero i l h e = absurd (omega arith)
  at_some k (suc n) i l h e = go (ℕ_discrete k i) (λ m. at_some (suc k) n i m (omega arith) e)
    where
      either : (a b : Bool) → b ≡ true → (a || b) ≡ true
      either true b e = refl
      either false b e = e

      go : Dec (k ≡ i) → (suc k ≤ i → some p (suc k) n ≡ true) → (p k || some p (suc k) n) ≡ true
      go (yes q) r = ap (λ (b : Bool). b || some p (suc k) n) (ap p q ∙ e)
      go (no d) r = either (p k) (some p (suc k) n) (r (omega (arith, d)))
