-- How often a number stands among the leaves of a tree whose records pass the tests: as often as lines refer to the first leaf that bears it.
use mathlib.Core.Path.{◌≡◌, refl, sym, ap, ap₂, ◌∙◌, subst}
use mathlib.Core.Bool.{Bool, true, not, cond, ◌||◌}
use mathlib.Core.Logic.{◌⊎◌, inl, inr}
use mathlib.Core.List.{List, [], ◌∷◌, ◌++◌}
use Prim.Native.Nat.{ℕ, zero, suc, ◌+◌, ◌-◌, ◌≤◌, ◌<◌}
use native.Mathlib.Decide.{dec_lt, ℕ_discrete}
use native.Mathlib.Omega.{arith}
use borrow.Author.Tests.{eq-eqb, ne_eqb}
use lib.Dec.{eqb}
use Rattle.written.specs.Said.{Ref}
use Rattle.written.specs.Linking.{times, pdf_of, pdfs}
use Rattle.laws.specs.Every.{all}
use Rattle.laws.proofs.Every.{first_of, second_of, all_each}
use Rattle.table_rows.specs.Rows.{record_rows, record_kind, record_pdf, record_yes, record_no}
use Rattle.write_records.specs.Records.{of_record}
use Rattle.write_parts.specs.Parts.{each, ref_of, line_of}
use Rattle.write_parts.proofs.Laws.{ref_line, ref_leaf}
use Rattle.write_counts.specs.Counts.{first_leaf, run_of, due_of, goals}
use Rattle.write_links.specs.Tests.{leaf_in, ref_in, line_in}
use Rattle.shown_write.proofs.Records.{stands_at, ref_below, goes_first, mono}

-- ---- one of two numbers

pub hit_one : {y x : ℕ} → y ≡ x → ◌≡◌ {A = ℕ} (cond (eqb y x) 1 0) 1
hit_one {y} {x} e = ap (λ (b : Bool). cond b 1 0) (eq-eqb y x e)

pub hit_none : {y x : ℕ} → (y ≡ x → ⊥) → ◌≡◌ {A = ℕ} (cond (eqb y x) 1 0) 0
hit_none {y} {x} e = ap (λ (b : Bool). cond b 1 0) (ne_eqb y x e)

pub times-append : (x : ℕ) (a b : List ℕ) → times x (a ++ b) ≡ times x a + times x b
unfolding times
times-append x [] b = omega arith
times-append x (y ∷ a) b = let e = times-append x a b in omega arith

-- ---- numbers of leaves

module _ (g : ℕ → ℕ) (x : ℕ) where
  -- the first of them that is x
  pub record FirstAt (k j : ℕ) : Type 0 where
    pub i : ℕ
    pub from : k ≤ i
    pub below : i < k + j
    pub is : g i ≡ x
    pub before : (h : ℕ) → k ≤ h → h < i → g h ≡ x → ⊥

  abbrev pub NoneAt : ℕ → ℕ → Type 0
  NoneAt k j = (i : ℕ) → k ≤ i → i < k + j → g i ≡ x → ⊥

  pub look : (k j : ℕ) → FirstAt k j ⊎ NoneAt k j
  look k zero = inr (λ i a b e. omega arith)
  look k (suc j) = go (ℕ_discrete (g k) x) (look (suc k) j)
    where
      other : (g k ≡ x → ⊥) → (h : ℕ) → k ≤ h → g h ≡ x → suc k ≤ h
      other u h a e = pick (ℕ_discrete h k)
        where
          pick : Dec (h ≡ k) → suc k ≤ h
          pick (yes q) = absurd (u (ap g (sym q) ∙ e))
          pick (no q) = omega (arith, q)

      go : Dec (g k ≡ x) → FirstAt (suc k) j ⊎ NoneAt (suc k) j → FirstAt k (suc j) ⊎ NoneAt k (suc j)
      go (yes u) r = inl (record { i = k; from = omega arith; below = omega arith; is = u; before = λ h a b e. omega arith })
      go (no u) (inl b) = inl (record { i = b.i; from = omega (arith, b.from); below = omega (arith, b.below); is = b.is; before = λ h a c e. b.before h (other u h a e) c e })
      go (no u) (inr b) = inr (λ i a c e. b i (other u i a e) (omega arith) e)

  pub times_none : (k j : ℕ) → NoneAt k j → times x (each g k j) ≡ 0
  unfolding each times
  times_none k zero f = refl
  times_none k (suc j) f = omega (arith, hit_none {y = g k} {x = x} (f k (omega arith) (omega arith)), times_none (suc k) j (λ i a b. f i (omega arith) (omega arith)))

  -- none before i: those from i on count
  pub times_from : (k j i : ℕ) → k ≤ i → i ≤ k + j → ((h : ℕ) → k ≤ h → h < i → g h ≡ x → ⊥) → times x (each g k j) ≡ times x (each g i (k + j - i))
  unfolding each times
  times_from k zero i a b f = let e : i ≡ k = omega arith in let q : k + 0 - i ≡ 0 = omega arith in sym (ap₂ (λ (p r : ℕ). times x (each g p r)) e q)
  times_from k (suc j) i a b f = go (ℕ_discrete i k) (λ c. times_from (suc k) j i c (omega arith) (λ h u v. f h (omega arith) v))
    where
      go : Dec (i ≡ k) → (suc k ≤ i → times x (each g (suc k) j) ≡ times x (each g i (suc k + j - i))) → times x (each g k (suc j)) ≡ times x (each g i (k + suc j - i))
      go (yes e) r = let q : k + suc j - i ≡ suc j = omega arith in sym (ap₂ (λ (p r : ℕ). times x (each g p r)) e q)
      go (no e) r =
          let q : suc k + j - i ≡ k + suc j - i = omega arith in
          omega (arith, hit_none {y = g k} {x = x} (f k (omega arith) (omega (arith, e))), r (omega (arith, e)), ap (λ (p : ℕ). times x (each g i p)) q)

-- ---- runs

module _ (R : List ℕ) (f : ℕ) where
  abbrev number : ℕ → ℕ
  number k = of_record record_pdf R f k

  -- a run of numbers that only grow has them all
  pub run-times : (x k j : ℕ) → ((i : ℕ) → i < j → x ≤ number (k + i)) → ((a i : ℕ) → a + i < j → number (k + a) ≤ number (k + a + i)) → run_of R f x k j ≡ times x (each number k j)
  unfolding run_of each times
  run-times x k zero low up = refl
  run-times x k (suc j) low up =
      go (ℕ_discrete (number k) x)
      (run-times x (suc k) j (λ i h. let e : k + suc i ≡ suc k + i = omega arith in subst (λ (p : ℕ). x ≤ number p) e (low (suc i) (omega arith)))
      (λ a i h. let e : k + suc a ≡ suc k + a = omega arith in let q : k + suc a + i ≡ suc k + a + i = omega arith in omega (arith, up (suc a) i (omega arith), ap number e, ap number q)))
    where
      -- above x all stay above it
      above : (number k ≡ x → ⊥) → NoneAt number x (suc k) j
      above u i a b e =
          let q : k + 0 + (i - k) ≡ i = omega arith in
          let z : k + 0 ≡ k = omega arith in
          u (omega (arith, up 0 (i - k) (omega arith), low 0 (omega arith), ap number q, ap number z, e))

      go : Dec (number k ≡ x) → run_of R f x (suc k) j ≡ times x (each number (suc k) j)
          → cond (eqb (number k) x) (suc (run_of R f x (suc k) j)) 0 ≡ cond (eqb (number k) x) 1 0 + times x (each number (suc k) j)
      go (yes u) rest = omega (arith, ap (λ (b : Bool). cond b (suc (run_of R f x (suc k) j)) 0) (eq-eqb (number k) x u), hit_one u, rest)
      go (no u) rest = omega (arith, ap (λ (b : Bool). cond b (suc (run_of R f x (suc k) j)) 0) (ne_eqb (number k) x u), hit_none u, times_none number x (suc k) j (above u))

-- ---- a tree: its first record in row f, m records in the table, n lines

module _ (R : List ℕ) (f m n : ℕ) (in_table : f + m ≤ record_rows R) (few : n ≤ m) (leaves : all (leaf_in R f n) n (m - n) ≡ true) where
  abbrev pub numbers : List ℕ
  numbers = each (number R f) n (m - n)

  -- the first leaf of its number, by the one before it
  pub first_test : (k : ℕ) → n ≤ k → k < m → ((h : ℕ) → n ≤ h → h < k → number R f h ≡ number R f k → ⊥) → first_leaf R f n k ≡ true
  unfolding first_leaf
  first_test k l h before = go (ℕ_discrete k n)
    where
      go : Dec (k ≡ n) → (eqb k n || not (eqb (number R f (k - 1)) (number R f k))) ≡ true
      go (yes e) = ap (λ (b : Bool). b || not (eqb (number R f (k - 1)) (number R f k))) (eq-eqb k n e)
      go (no e) =
          ap (λ (b : Bool). b || not (eqb (number R f (k - 1)) (number R f k))) (ne_eqb k n e)
          ∙ ap not (ne_eqb (number R f (k - 1)) (number R f k) (before (k - 1) (omega (arith, e)) (omega (arith, e))))

  -- what is due to the first leaf of a number: as many as leaves bear it
  pub due_times : (k : ℕ) → n ≤ k → k < m → ((h : ℕ) → n ≤ h → h < k → number R f h ≡ number R f k → ⊥) → due_of R f m n k ≡ times (number R f k) numbers
  unfolding due_of
  due_times k l h before =
      let e : n + (m - n) - k ≡ m - k = omega arith in
      ap (λ (b : Bool). cond b (run_of R f (number R f k) k (m - k)) 0) (first_test k l h before)
      ∙ run-times R f (number R f k) k (m - k) (λ i c. mono R f m n in_table few leaves k i l (omega arith)) (λ a i c. mono R f m n in_table few leaves (k + a) i (omega arith) (omega arith))
      ∙ sym (times_from (number R f) (number R f k) n (m - n) k l (omega arith) before ∙ ap (λ (j : ℕ). times (number R f k) (each (number R f) k j)) e)

  -- ---- references

  module _ (x i : ℕ) (l : n ≤ i) (is : number R f i ≡ x) (before : (h : ℕ) → n ≤ h → h < i → number R f h ≡ x → ⊥) (within : i < m) where
    -- a reference to a leaf of the number x is one to the first of them
    refers : (k : ℕ) → ref_in R f m n k ≡ true → times x (pdf_of (ref_of R f n k)) ≡ cond (eqb k i) 1 0
    unfolding times
    refers k t = go (dec_lt k n) (ℕ_discrete k i)
      where
        low : k < m
        low = ref_below R f m n in_table few leaves k t

        leaf_hit : n ≤ k → times x (pdf_of (ref_of R f n k)) ≡ cond (eqb (number R f k) x) 1 0
        leaf_hit h = ap (λ (r : Ref). times x (pdf_of r)) (sym (ref_leaf R f n k h)) ∙ (let z : cond (eqb (number R f k) x) 1 0 + 0 ≡ cond (eqb (number R f k) x) 1 0 = omega arith in z)

        -- no leaf before k bears its number
        first_one : n ≤ k → (h : ℕ) → n ≤ h → h < k → number R f h ≡ number R f k → ⊥
        first_one c h a b e = (goes_first R f m n in_table few leaves k t c).before (h - n) (number R f h) (omega arith) (stands_at R f m n in_table few h a (omega (arith, low))) e

        unlike : n ≤ k → (k ≡ i → ⊥) → number R f k ≡ x → ⊥
        unlike c u e = pick (dec_lt k i)
          where
            pick : Dec (k < i) → ⊥
            pick (yes b) = before k c b e
            pick (no b) = first_one c i l (omega (arith, u)) (is ∙ sym e)

        go : Dec (k < n) → Dec (k ≡ i) → times x (pdf_of (ref_of R f n k)) ≡ cond (eqb k i) 1 0
        go (yes h) (yes e) = absurd (omega arith)
        go (yes h) (no e) = ap (λ (r : Ref). times x (pdf_of r)) (sym (ref_line R f n k h)) ∙ sym (hit_none e)
        go (no h) (yes e) = leaf_hit (omega arith) ∙ hit_one (ap (number R f) e ∙ is) ∙ sym (hit_one e)
        go (no h) (no e) = leaf_hit (omega arith) ∙ hit_none (unlike (omega arith) e) ∙ sym (hit_none e)

    module _ (d Q : List ℕ) (lines : all (line_in R f m n) 0 n ≡ true) where
      refs_in : (k : ℕ) → k < n → (ref_in R f m n (of_record record_yes R f k) ≡ true) × (ref_in R f m n (of_record record_no R f k) ≡ true)
      unfolding line_in
      refs_in k h =
          let t = second_of (eqb (of_record record_kind R f k) 0) _ (all_each (line_in R f m n) 0 n lines k (omega arith) (omega arith)) in
          (first_of _ _ t, second_of (ref_in R f m n (of_record record_yes R f k)) _ t)

      goals_from : (k j : ℕ) → k + j ≡ n → times x (pdfs (each (line_of d Q R f n) k j)) ≡ times i (goals R f k j)
      unfolding each pdfs times goals
      goals_from k zero e = refl
      goals_from k (suc j) e =
          let t = refs_in k (omega arith) in
          let yes-ref = pdf_of (ref_of R f n (of_record record_yes R f k)) in
          let no_ref = pdf_of (ref_of R f n (of_record record_no R f k)) in
          let rest = pdfs (each (line_of d Q R f n) (suc k) j) in
          omega (
            arith,
            times-append x yes-ref (no_ref ++ rest),
            times-append x no_ref rest,
            refers (of_record record_yes R f k) t.0,
            refers (of_record record_no R f k) t.1,
            goals_from (suc k) j (omega arith),
          )

      -- lines refer to a number as often as they go to the first leaf that bears it
      pub pdfs-goals : times x (pdfs (each (line_of d Q R f n) 0 n)) ≡ times i (goals R f 0 n)
      pdfs-goals = goals_from 0 n (omega arith)
