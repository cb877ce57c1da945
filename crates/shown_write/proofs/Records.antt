-- The records of a tree that pass the tests: leaves in order behind the lines, and where references go.
use mathlib.Core.Path.{◌≡◌, refl, sym, ap, ap₂, ◌∙◌, subst}
use mathlib.Core.Bool.{Bool, true, false, not, ◌&&◌, ◌||◌}
use mathlib.Core.Logic.{◌⊎◌, inl, inr, ⊎_elim}
use mathlib.Core.List.{List, [], ◌∷◌, map}
use Prim.Native.Nat.{ℕ, zero, suc, ◌+◌, ◌-◌, ◌≤◌, ◌<◌}
use native.Mathlib.Omega.{arith}
use borrow.Author.Tests.{lt-ltb, ltb-true, leb-true, eq-eqb, eqb-true}
use lib.Dec.{ltb, leb, eqb}
use lib.ListN.{length}
use Rattle.written.specs.Linking.{Nth, here, there, First, leaf, Ascending}
use Rattle.written.proofs.Walk.{nth_once}
use Rattle.laws.specs.Every.{all}
use Rattle.laws.proofs.Every.{first_of, second_of, all_each}
use Rattle.table_rows.specs.Rows.{record_rows, record_kind, record_pdf, record_yes, record_no, record_row, rows_from}
use Rattle.table_rows.proofs.Stand.{nth_below}
use Rattle.write_parts.specs.Parts.{each}
use Rattle.write_records.specs.Records.{of_record}
use Rattle.write_records.proofs.Laws.{record_says}
use Rattle.write_counts.specs.Counts.{first_leaf}
use Rattle.write_links.specs.Tests.{leaf_at, leaf_in, ref_in}

-- ---- tests of which one is enough

pub or_says : (a b : Bool) → (a || b) ≡ true → (a ≡ true) ⊎ (b ≡ true)
or_says true b e = inl refl
or_says false b e = inr e

pub differ : (a : Bool) → a ≡ true → not a ≡ true → ⊥
differ a p q = let u : ◌≡◌ {A = Bool} true false = sym q ∙ ap not p in let z : ◌≡◌ {A = ℕ} 0 1 = cc in omega arith

-- ---- things by their number

module _ {A : Type 0} (g : ℕ → A) where
  pub each_at : (k n i : ℕ) → i < n → Nth (each g k n) i (g (k + i))
  unfolding each
  each_at k zero i h = absurd (omega arith)
  each_at k (suc n) zero h = let q : k ≡ k + 0 = omega arith in subst (λ (m : ℕ). Nth (each g k (suc n)) zero (g m)) q here
  each_at k (suc n) (suc i) h = let q : suc k + i ≡ k + suc i = omega arith in subst (λ (m : ℕ). Nth (each g k (suc n)) (suc i) (g m)) q (there (each_at (suc k) n i (omega arith)))

  pub each_long : (k n : ℕ) → length (each g k n) ≡ n
  unfolding each
  each_long k zero = refl
  each_long k (suc n) = ap suc (each_long (suc k) n)

  pub each_is : (k n : ℕ) {i : ℕ} {x : A} → Nth (each g k n) i x → (i < n) × (x ≡ g (k + i))
  each_is k n {i} h = let l : i < n = omega (arith, nth_below h, each_long k n) in (l, nth_once h (each_at k n i l))

  pub from_zero : (n i : ℕ) → i < n → Nth (each g 0 n) i (g i)
  from_zero n i h = let q : 0 + i ≡ i = omega arith in subst (λ (m : ℕ). Nth (each g 0 n) i (g m)) q (each_at 0 n i h)

  pub is_zero : (n : ℕ) {i : ℕ} {x : A} → Nth (each g 0 n) i x → (i < n) × (x ≡ g i)
  is_zero n {i} h = let r = each_is 0 n h in let q : 0 + i ≡ i = omega arith in (r.0, r.1 ∙ ap g q)

-- ---- a tree: its first record in row f, m records in the table, n lines

module _ (R : List ℕ) (f m n : ℕ) (in_table : f + m ≤ record_rows R) (few : n ≤ m) where
  -- a number of a record that is there
  pub says : (field : List ℕ → ℕ → ℕ) (k : ℕ) → k < m → of_record field R f k ≡ field R (f + k)
  says field k h = sym (record_says field R f k (lt-ltb (f + k) (record_rows R) (omega arith)) refl)

  abbrev number : ℕ → ℕ
  number k = of_record record_pdf R f k

  -- where a number stands among those of the leaves
  pub stands_at : (k : ℕ) → n ≤ k → k < m → Nth (each number n (m - n)) (k - n) (number k)
  stands_at k l h = let q : n + (k - n) ≡ k = omega arith in subst (λ (i : ℕ). Nth (each number n (m - n)) (k - n) (number i)) q (each_at number n (m - n) (k - n) (omega arith))

  -- the row of a leaf
  pub leaf_is : (k : ℕ) → k < m → leaf_at R f k ≡ true → record_row R (f + k) ≡ leaf (number k)
  unfolding leaf_at
  leaf_is k h t =
      let c : record_kind R (f + k) ≡ 1 = sym (says record_kind k h) ∙ eqb-true (of_record record_kind R f k) 1 (first_of _ _ t) in
      let p = second_of (ltb (number k) 9223372036854775808) _ (second_of (eqb (of_record record_kind R f k) 1) _ t) in
      let y : record_yes R (f + k) ≡ 0 = sym (says record_yes k h) ∙ eqb-true (of_record record_yes R f k) 0 (first_of _ _ p) in
      let z : record_no R (f + k) ≡ 0 = sym (says record_no k h) ∙ eqb-true (of_record record_no R f k) 0 (second_of (eqb (of_record record_yes R f k) 0) _ p) in
      ap₂ (λ (a b : ℕ). a ∷ b ∷ record_yes R (f + k) ∷ record_no R (f + k) ∷ []) c (sym (says record_pdf k h)) ∙ ap₂ (λ (a b : ℕ). 1 ∷ number k ∷ a ∷ b ∷ []) y z

  module _ (leaves : all (leaf_in R f n) n (m - n) ≡ true) where
    leaf_test : (k : ℕ) → n ≤ k → k < m → (leaf_at R f k && (eqb k n || leb (number (k - 1)) (number k))) ≡ true
    unfolding leaf_in
    leaf_test k l h = all_each (leaf_in R f n) n (m - n) leaves k l (omega arith)

    leaf_row : (k : ℕ) → n ≤ k → k < m → record_row R (f + k) ≡ leaf (number k)
    leaf_row k l h = leaf_is k h (first_of (leaf_at R f k) _ (leaf_test k l h))

    -- a number that a text can have
    pub leaf_small : (k : ℕ) → n ≤ k → k < m → number k < 9223372036854775808
    unfolding leaf_at
    leaf_small k l h = ltb-true _ _ (first_of _ _ (second_of (eqb (of_record record_kind R f k) 1) _ (first_of (leaf_at R f k) _ (leaf_test k l h))))

    -- the rows behind the lines are those of the numbers
    pub leaf_rows : (k j : ℕ) → n ≤ k → k + j ≡ m → rows_from (record_row R) (f + k) j ≡ map leaf (each number k j)
    unfolding rows_from each
    leaf_rows k zero l e = refl
    leaf_rows k (suc j) l e =
        let s : suc (f + k) ≡ f + suc k = omega arith in
        ap₂ ◌∷◌ (leaf_row k l (omega arith)) (ap (λ (i : ℕ). rows_from (record_row R) i j) s ∙ leaf_rows (suc k) j (omega arith) (omega arith))

    next_not_below : (k : ℕ) → n ≤ k → suc k < m → number k ≤ number (suc k)
    next_not_below k l h =
        let e : suc k - 1 ≡ k = omega arith in
        let t = leb-true (number (suc k - 1)) (number (suc k)) (⊎_elim (λ u. absurd (omega (arith, eqb-true (suc k) n u))) (λ u. u) (or_says _ _ (second_of (leaf_at R f (suc k)) _ (leaf_test (suc k) (omega arith) h)))) in
        omega (arith, t, ap number e)

    pub ascending : (k j : ℕ) → n ≤ k → k + j ≡ m → Ascending (each number k j)
    unfolding each
    ascending k zero l e = Ascending.none
    ascending k (suc zero) l e = Ascending.one
    ascending k (suc (suc j)) l e = Ascending.more (next_not_below k l (omega arith)) (ascending (suc k) (suc j) (omega arith) (omega arith))

    -- no number is above one behind it
    pub mono : (a i : ℕ) → n ≤ a → a + i < m → number a ≤ number (a + i)
    mono a zero l h = let e : a ≡ a + 0 = omega arith in omega (arith, ap number e)
    mono a (suc i) l h =
        let e : a + suc i ≡ suc (a + i) = omega arith in
        omega (arith, mono a i l (omega arith), next_not_below (a + i) (omega arith) (omega arith), ap number e)

    -- ---- references

    module _ (k : ℕ) (t : ref_in R f m n k ≡ true) where
      pub ref_below : k < m
      unfolding ref_in
      ref_below = ltb-true k m (first_of _ _ t)

      -- a reference behind the lines goes to the first leaf of its number
      pub goes_first : n ≤ k → First (λ x. x ≡ number k) (each number n (m - n)) (k - n)
      unfolding ref_in first_leaf
      goes_first l =
          record {
            at = number k;
            stands = stands_at k l ref_below;
            true_of = refl;
            before = λ i x h s e. unlike_before i (omega arith) (sym (each_is number n (m - n) s).1 ∙ e);
          }
        where
          apart : (k ≡ n → ⊥) → number (k - 1) ≡ number k → ⊥
          apart z e =
              ⊎_elim (λ u. omega (arith, ltb-true k n u))
              (λ u. ⊎_elim (λ v. z (eqb-true k n v)) (λ v. differ (eqb (number (k - 1)) (number k)) (eq-eqb (number (k - 1)) (number k) e) v) (or_says _ _ u))
              (or_says _ _ (second_of (ltb k m) _ t))

          unlike_before : (i : ℕ) → n + i < k → number (n + i) ≡ number k → ⊥
          unlike_before i h e =
              let s : n + i + (k - 1 - (n + i)) ≡ k - 1 = omega arith in
              let w : suc (k - 1) ≡ k = omega arith in
              let a = mono (n + i) (k - 1 - (n + i)) (omega arith) (omega (arith, ref_below)) in
              let b = next_not_below (k - 1) (omega arith) (omega (arith, ref_below)) in
              apart (λ z. omega arith) (omega (arith, a, b, ap number s, ap number w))
