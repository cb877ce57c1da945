-- The first leaf of a number, runs of leaves, counts in a slice, and windows of leaves: one law for each way through.
use mathlib.Core.Path.{◌≡◌, refl, sym, ap, ap₂, ◌∙◌, subst}
use mathlib.Core.Bool.{Bool, true, false, not, cond, ◌&&◌, ◌||◌}
use mathlib.Core.List.{List, [], ◌∷◌}
use Prim.Native.Nat.{ℕ, zero, suc, ◌+◌, ◌-◌, ◌*◌, ◌≤◌, ◌<◌}
use native.Mathlib.Decide.{dec_lt, dec_le, ℕ_discrete}
use native.Mathlib.Omega.{arith}
use borrow.Author.Tests.{lt-ltb, le-ltb, le-leb, lt-leb, eq-eqb, ne_eqb}
use lib.Dec.{ltb, leb, eqb}
use lib.ListN.{length, get_or, set, length-set, replicate}
use lib.Seq.{get_or-set_same, get_or-set_other}
use Rattle.written.specs.Linking.{times}
use Rattle.laws.specs.Every.{all}
use Rattle.laws.proofs.Every.{not_first, then_second}
use Rattle.table_rows.specs.Rows.{record_rows, record_pdf, record_yes, record_no}
use Rattle.write_records.specs.Records.{of_record}
use Rattle.write_counts.specs.Counts.{first_leaf, run_of, due_of, goals, counted, added, Zeros, Small, Tallied}

-- ---- the first leaf of its number

module _ (R : List ℕ) (f n k : ℕ) where
  pub first_here : k ≡ n → eqb k n ≡ first_leaf R f n k
  unfolding first_leaf
  first_here e = eq-eqb k n e ∙ sym (ap (λ (x : Bool). x || not (eqb (of_record record_pdf R f (k - 1)) (of_record record_pdf R f k))) (eq-eqb k n e))

  pub first_later : (k ≡ n → ⊥) → {a b : ℕ} → a ≡ of_record record_pdf R f (k - 1) → b ≡ of_record record_pdf R f k → not (eqb a b) ≡ first_leaf R f n k
  unfolding first_leaf
  first_later e u v =
      ap₂ (λ (a b : ℕ). not (eqb a b)) u v ∙ sym (ap (λ (x : Bool). x || not (eqb (of_record record_pdf R f (k - 1)) (of_record record_pdf R f k))) (ne_eqb k n e))

-- ---- a run

module _ (R : List ℕ) (f x k m : ℕ) where
  pub record Running (i : ℕ) : Type 0 where
    pub from : k ≤ i
    pub rest : i - k + run_of R f x i (m - i) ≡ run_of R f x k (m - k)

  module _ (i : ℕ) (s : Running i) where
    next : i < m → run_of R f x i (m - i) ≡ cond (eqb (of_record record_pdf R f i) x) (suc (run_of R f x (suc i) (m - (i + 1)))) 0
    unfolding run_of
    next h = let e : m - i ≡ suc (m - (i + 1)) = omega arith in ap (run_of R f x i) e

    pub running_on : i < m → {y : ℕ} → y ≡ of_record record_pdf R f i → y ≡ x → Running (i + 1)
    running_on h u v =
        let a : suc i ≡ i + 1 = omega arith in
        let b : run_of R f x i (m - i) ≡ suc (run_of R f x (i + 1) (m - (i + 1))) =
        next h ∙ ap (λ (c : Bool). cond c (suc (run_of R f x (suc i) (m - (i + 1)))) 0) (eq-eqb (of_record record_pdf R f i) x (sym u ∙ v)) ∙ ap (λ (j : ℕ). suc (run_of R f x j (m - (i + 1)))) a in
        record { from = omega (arith, s.from); rest = omega (arith, s.from, s.rest, b) }

    pub running_off : i < m → {y : ℕ} → y ≡ of_record record_pdf R f i → (y ≡ x → ⊥) → i - k ≡ run_of R f x k (m - k)
    running_off h u v =
        let b : run_of R f x i (m - i) ≡ 0 = next h ∙ ap (λ (c : Bool). cond c (suc (run_of R f x (suc i) (m - (i + 1)))) 0) (ne_eqb (of_record record_pdf R f i) x (λ e. v (u ∙ e))) in
        omega (arith, s.rest, b)

    pub running_end : m ≤ i → (k ≤ m → i ≤ m) → m - k ≡ run_of R f x k (m - k)
    unfolding run_of
    running_end h l = go (dec_le k m)
      where
        b : run_of R f x i (m - i) ≡ 0
        b = let e : m - i ≡ 0 = omega arith in ap (run_of R f x i) e

        go : Dec (k ≤ m) → m - k ≡ run_of R f x k (m - k)
        go (yes u) = omega (arith, s.rest, b, l u)
        go (no u) = let e : m - k ≡ 0 = omega arith in let z : run_of R f x k (m - k) ≡ 0 = ap (run_of R f x k) e in omega (arith, z)

-- with the number by its name
pub run_so : (R : List ℕ) (f k m : ℕ) {x r : ℕ} → x ≡ of_record record_pdf R f k → r ≡ run_of R f x k (m - k) → r ≡ run_of R f (of_record record_pdf R f k) k (m - k)
run_so R f k m u e = e ∙ ap (λ (y : ℕ). run_of R f y k (m - k)) u

module _ (R : List ℕ) (f m n k : ℕ) where
  pub due_first : {b : Bool} {r : ℕ} → b ≡ first_leaf R f n k → b ≡ true → r ≡ run_of R f (of_record record_pdf R f k) k (m - k) → r ≡ due_of R f m n k
  unfolding due_of
  due_first u e v = v ∙ sym (ap (λ (x : Bool). cond x (run_of R f (of_record record_pdf R f k) k (m - k)) 0) (sym u ∙ e))

  pub due_none : {b : Bool} → b ≡ first_leaf R f n k → b ≡ false → 0 ≡ due_of R f m n k
  unfolding due_of
  due_none u e = sym (ap (λ (x : Bool). cond x (run_of R f (of_record record_pdf R f k) k (m - k)) 0) (sym u ∙ e))

-- ---- one more

module _ (base k : ℕ) (t : List ℕ) where
  in_slice : base ≤ k → k - base < length t → (leb base k && ltb (k - base) (length t)) ≡ true
  in_slice h l = ap₂ ◌&&◌ (le-leb base k h) (lt-ltb (k - base) (length t) l)

  pub added_in : base ≤ k → k - base < length t → set t (k - base) (get_or t (k - base) 0 + 1) ≡ added base k t
  unfolding added
  added_in h l = sym (ap (λ (x : Bool). cond x (set t (k - base) (get_or t (k - base) 0 + 1)) t) (in_slice h l))

  pub added_past : base ≤ k → length t ≤ k - base → t ≡ added base k t
  unfolding added
  added_past h l = sym (ap (λ (x : Bool). cond x (set t (k - base) (get_or t (k - base) 0 + 1)) t) (ap₂ ◌&&◌ (le-leb base k h) (le-ltb (k - base) (length t) l)))

  pub added_before : k < base → t ≡ added base k t
  unfolding added
  added_before h = sym (ap (λ (x : Bool). cond (x && ltb (k - base) (length t)) (set t (k - base) (get_or t (k - base) 0 + 1)) t) (lt-leb base k h))

  ways : (P : List ℕ → Type 0) → (base ≤ k → k - base < length t → P (set t (k - base) (get_or t (k - base) 0 + 1))) → P t → P (added base k t)
  ways P p q = go (dec_lt k base) (dec_lt (k - base) (length t))
    where
      go : Dec (k < base) → Dec (k - base < length t) → P (added base k t)
      go (yes a) b = subst P (added_before a) q
      go (no a) (yes b) = subst P (added_in (omega arith) b) (p (omega arith) b)
      go (no a) (no b) = subst P (added_past (omega arith) (omega arith)) q

  pub added_long : length (added base k t) ≡ length t
  added_long = ways (λ (e : List ℕ). length e ≡ length t) (λ h l. length-set t (k - base) (get_or t (k - base) 0 + 1)) refl

  -- each count after it
  pub added_at : (j : ℕ) → j < length t → get_or (added base k t) j 0 ≡ get_or t j 0 + cond (eqb k (base + j)) 1 0
  added_at j h = go (ℕ_discrete k (base + j))
    where
      hit : Bool → ℕ
      hit b = cond b 1 0

      go : Dec (k ≡ base + j) → get_or (added base k t) j 0 ≡ get_or t j 0 + cond (eqb k (base + j)) 1 0
      go (yes e) =
          let q : k - base ≡ j = omega arith in
          let z : ◌≡◌ {A = ℕ} (cond (eqb k (base + j)) 1 0) 1 = ap hit (eq-eqb k (base + j) e) in
          let s : get_or (added base k t) j 0 ≡ get_or t j 0 + 1 =
          sym (ap (λ (l : List ℕ). get_or l j 0) (added_in (omega arith) (omega arith))) ∙ ap (λ (i : ℕ). get_or (set t i (get_or t i 0 + 1)) j 0) q ∙ get_or-set_same t j (get_or t j 0 + 1) 0 h in
          omega (arith, s, z)
      go (no e) =
          let z : ◌≡◌ {A = ℕ} (cond (eqb k (base + j)) 1 0) 0 = ap hit (ne_eqb k (base + j) e) in
          let s : get_or (added base k t) j 0 ≡ get_or t j 0 =
          ways (λ (l : List ℕ). get_or l j 0 ≡ get_or t j 0) (λ a b. get_or-set_other t (k - base) j (get_or t (k - base) 0 + 1) 0 (λ q. e (omega (arith, q)))) refl in
          omega (arith, s, z)

-- ---- references counted

times_few : (x : ℕ) (l : List ℕ) → times x l ≤ length l
unfolding times
times_few x [] = omega arith
times_few x (y ∷ l) = go (ℕ_discrete y x) (times_few x l)
  where
    hit : Bool → ℕ
    hit b = cond b 1 0

    go : Dec (y ≡ x) → times x l ≤ length l → cond (eqb y x) 1 0 + times x l ≤ suc (length l)
    go (yes e) h = let z : ◌≡◌ {A = ℕ} (cond (eqb y x) 1 0) 1 = ap hit (eq-eqb y x e) in omega arith
    go (no e) h = let z : ◌≡◌ {A = ℕ} (cond (eqb y x) 1 0) 0 = ap hit (ne_eqb y x e) in omega arith

goals_long : (R : List ℕ) (f k j : ℕ) → length (goals R f k j) ≡ 2 * j
unfolding goals
goals_long R f k zero = refl
goals_long R f k (suc j) = omega (arith, goals_long R f (suc k) j)

past_list : (t : List ℕ) (j : ℕ) → length t ≤ j → get_or t j 0 ≡ 0
past_list [] j h = refl
past_list (x ∷ t) zero h = absurd (omega arith)
past_list (x ∷ t) (suc j) h = past_list t j (omega arith)

module _ (R : List ℕ) (f n base : ℕ) (t₀ : List ℕ) where
  -- what is left, counted on, gives the whole count
  abbrev Left : List ℕ → List ℕ → Type 0
  Left t l = (j : ℕ) → j < length t₀ → get_or t j 0 + times (base + j) l ≡ times (base + j) (goals R f 0 n)

  pub record Tallying (t : List ℕ) (k : ℕ) : Type 0 where
    pub within : k ≤ n
    pub long : length t ≡ length t₀
    pub left : Left t (goals R f k (n - k))

  -- no count is near the greatest number
  small : (t l : List ℕ) → n ≤ record_rows R → length R ≤ 18446744073709551615 → length t ≡ length t₀ → Left t l → Small t
  small t l h s e u j = go (dec_lt j (length t₀))
    where
      go : Dec (j < length t₀) → get_or t j 0 < 18446744073709551615
      go (yes b) = omega (arith, u j b, times_few (base + j) (goals R f 0 n), goals_long R f 0 n)
      go (no b) = omega (arith, past_list t j (omega arith))

  -- one more, of what was left
  one_more : (t l : List ℕ) (x : ℕ) → length t ≡ length t₀ → Left t (x ∷ l) → Left (added base x t) l
  unfolding times
  one_more t l x e u j h = omega (arith, u j h, added_at base x t j (omega arith))

  module _ (t : List ℕ) (k : ℕ) (s : Tallying t k) (h : k < n) where
    next_goals : goals R f k (n - k) ≡ of_record record_yes R f k ∷ of_record record_no R f k ∷ goals R f (k + 1) (n - (k + 1))
    unfolding goals
    next_goals =
        let e : n - k ≡ suc (n - (k + 1)) = omega arith in
        let q : suc k ≡ k + 1 = omega arith in
        ap (goals R f k) e ∙ ap (λ (i : ℕ). of_record record_yes R f k ∷ of_record record_no R f k ∷ goals R f i (n - (k + 1))) q

    both_left : {y : ℕ} → y ≡ of_record record_yes R f k → Left t (y ∷ of_record record_no R f k ∷ goals R f (k + 1) (n - (k + 1)))
    both_left {y} u = subst (Left t) (next_goals ∙ ap (λ (i : ℕ). i ∷ of_record record_no R f k ∷ goals R f (k + 1) (n - (k + 1))) (sym u)) s.left

    pub small_yes : n ≤ record_rows R → length R ≤ 18446744073709551615 → Small t
    small_yes a b = small t (goals R f k (n - k)) a b s.long s.left

    module _ {y z : ℕ} (u : y ≡ of_record record_yes R f k) (v : z ≡ of_record record_no R f k) {e : List ℕ} (p : e ≡ added base y t) where
      first_long : length e ≡ length t₀
      first_long = ap length p ∙ added_long base y t ∙ s.long

      first_left : Left e (z ∷ goals R f (k + 1) (n - (k + 1)))
      first_left =
          subst (λ (l : List ℕ). Left l (z ∷ goals R f (k + 1) (n - (k + 1)))) (sym p)
          (one_more t (z ∷ goals R f (k + 1) (n - (k + 1))) y s.long (subst (λ (i : ℕ). Left t (y ∷ i ∷ goals R f (k + 1) (n - (k + 1)))) (sym v) (both_left u)))

      pub small_no : n ≤ record_rows R → length R ≤ 18446744073709551615 → Small e
      small_no a b = small e (z ∷ goals R f (k + 1) (n - (k + 1))) a b first_long first_left

      pub tallying_on : {g : List ℕ} → g ≡ added base z e → Tallying g (k + 1)
      tallying_on q =
          record {
            within = omega arith;
            long = ap length q ∙ added_long base z e ∙ first_long;
            left = subst (λ (l : List ℕ). Left l (goals R f (k + 1) (n - (k + 1)))) (sym q) (one_more e (goals R f (k + 1) (n - (k + 1))) z first_long first_left);
          }

  pub tallying_end : (t : List ℕ) (k : ℕ) → Tallying t k → n ≤ k → Tallied base (goals R f 0 n) t₀ t
  unfolding goals times
  tallying_end t k s h =
      let e : n - k ≡ 0 = omega arith in
      record { long = s.long; each = λ j l. let q : times (base + j) (goals R f k (n - k)) ≡ 0 = ap (λ (i : ℕ). times (base + j) (goals R f k i)) e in omega (arith, s.left j l, q) }

-- ---- a window

pub counted_so : (R : List ℕ) (f m n k : ℕ) {a b : ℕ} {x : Bool} → a ≡ times k (goals R f 0 n) → b ≡ due_of R f m n k → eqb a b ≡ x → counted R f m n k ≡ x
unfolding counted
counted_so R f m n k u v e = sym (ap₂ eqb u v) ∙ e

-- the leaves of a window from j on say what all of them say
module _ (p : ℕ → Bool) (base size : ℕ) where
  pub record Inside (j : ℕ) : Type 0 where
    pub within : j ≤ size
    pub rest : all p (base + j) (size - j) ≡ all p base size

  module _ (j : ℕ) (s : Inside j) where
    step : j < size → (p (base + j) && all p (base + (j + 1)) (size - (j + 1))) ≡ all p base size
    unfolding all
    step h =
        let e : size - j ≡ suc (size - (j + 1)) = omega arith in
        let q : suc (base + j) ≡ base + (j + 1) = omega arith in
        sym (ap (all p (base + j)) e ∙ ap (λ (i : ℕ). p (base + j) && all p i (size - (j + 1))) q) ∙ s.rest

    pub inside_on : j < size → p (base + j) ≡ true → Inside (j + 1)
    inside_on h e = record { within = omega arith; rest = then_second e refl ∙ step h }

    pub inside_off : j < size → p (base + j) ≡ false → false ≡ all p base size
    inside_off h e = not_first _ e ∙ step h

    pub inside_end : size ≤ j → true ≡ all p base size
    unfolding all
    inside_end h = let e : size - j ≡ 0 = omega arith in sym (ap (all p (base + j)) e) ∙ s.rest

-- all of a range, in two parts
all_parts : (p : ℕ → Bool) (k a b : ℕ) → all p k (a + b) ≡ (all p k a && all p (k + a) b)
unfolding all
all_parts p k zero b = let e : 0 + b ≡ b = omega arith in let q : k ≡ k + 0 = omega arith in ap₂ (λ (i j : ℕ). all p i j) q e
all_parts p k (suc a) b =
    let e : suc a + b ≡ suc (a + b) = omega arith in
    let q : suc k + a ≡ k + suc a = omega arith in
    ap (all p k) e ∙ ap (λ (x : Bool). p k && x) (all_parts p (suc k) a b ∙ ap (λ (i : ℕ). all p (suc k) a && all p i b) q) ∙ sym (and_assoc (p k) (all p (suc k) a) (all p (k + suc a) b))
  where
    and_assoc : (x y z : Bool) → ((x && y) && z) ≡ (x && (y && z))
    and_assoc true y z = refl
    and_assoc false y z = refl

module _ (p : ℕ → Bool) (n m : ℕ) where
  -- the leaves from `base` on say what all say
  pub record Windows (base : ℕ) : Type 0 where
    pub from : n ≤ base
    pub within : base ≤ m
    pub rest : all p base (m - base) ≡ all p n (m - n)

  pub windows_none : n ≤ m → Windows n
  windows_none h = record { from = omega arith; within = h; rest = refl }

  module _ (base size : ℕ) (s : Windows base) (h : size ≤ m - base) where
    split : (all p base size && all p (base + size) (m - (base + size))) ≡ all p n (m - n)
    split = let e : size + (m - (base + size)) ≡ m - base = omega (arith, s.within) in sym (all_parts p base size (m - (base + size))) ∙ ap (all p base) e ∙ s.rest

    pub windows_on : {x : Bool} → x ≡ all p base size → x ≡ true → Windows (base + size)
    windows_on u e = record { from = omega (arith, s.from); within = omega (arith, s.within); rest = then_second (sym u ∙ e) refl ∙ split }

    pub windows_off : {x : Bool} → x ≡ all p base size → x ≡ false → false ≡ all p n (m - n)
    windows_off u e = not_first _ (sym u ∙ e) ∙ split

  pub windows_end : (base : ℕ) → Windows base → m ≤ base → true ≡ all p n (m - n)
  unfolding all
  windows_end base s h = let e : m - base ≡ 0 = omega arith in sym (ap (all p base) e) ∙ s.rest

-- ---- counts that begin at 0

pub zeros_of : (n : ℕ) → Zeros (replicate n 0)
zeros_of zero j = refl
zeros_of (suc n) zero = refl
zeros_of (suc n) (suc j) = zeros_of n j
