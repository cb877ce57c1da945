-- Each way through the functions that judge rows and fill answers.
use mathlib.Core.Path.{◌≡◌, refl, sym, ap, ap₂, ◌∙◌}
use mathlib.Core.Bool.{Bool, true, false, cond, ◌||◌}
use mathlib.Core.List.{List, [], ◌∷◌}
use Prim.Native.Nat.{ℕ, suc, ◌+◌, ◌-◌, ◌≤◌, ◌<◌}
use native.Mathlib.Decide.{dec_lt}
use native.Mathlib.Numerals.{add-one}
use native.Mathlib.Omega.{arith}
use borrow.Author.Tests.{lt-ltb, le-ltb, ltb-true, le-leb, lt-leb, leb-true, eq-eqb, ne_eqb}
use lib.Dec.{ltb, leb, eqb}
use lib.ListN.{length, take, drop, set, length-set}
use lib.Seq.{sets}
use Rattle.written.specs.Bytes.{part}
use Rattle.laws.specs.Every.{all, some}
use Rattle.laws.proofs.Every.{not_first, then_second, first_of, second_of, all_each}
use Rattle.table_rows.specs.Rows.{question_rows, question_first, question_patterns, pattern_rows, pattern_start, pattern_len}
use Rattle.label_match.specs.Matched.{match_of}
use Rattle.label_answers.specs.Answering.{bytes_fit, pattern_fits, row_fits, rows_fit, pattern_matches, row_matches, byte_of, bytes_from, answer_bytes, answers_number, answers_after, Answering}

-- ---- bytes in the data

module _ (d : List ℕ) (a n : ℕ) where
  pub no_bytes : n ≡ 0 → true ≡ bytes_fit d a n
  unfolding bytes_fit
  no_bytes e = sym (ap (λ (t : Bool). t || leb (a + n) (length d)) (eq-eqb n 0 e))

  module _ (some : n ≡ 0 → ⊥) where
    ends : leb (a + n) (length d) ≡ bytes_fit d a n
    unfolding bytes_fit
    ends = sym (ap (λ (t : Bool). t || leb (a + n) (length d)) (ne_eqb n 0 some))

    pub starts_past : length d < a → false ≡ bytes_fit d a n
    starts_past h = sym (lt-leb (a + n) (length d) (omega arith)) ∙ ends

    pub by_room : a ≤ length d → leb n (length d - a) ≡ bytes_fit d a n
    by_room h = go (dec_lt (length d - a) n) ∙ ends
      where
        go : Dec (length d - a < n) → leb n (length d - a) ≡ leb (a + n) (length d)
        go (yes l) = lt-leb n (length d - a) l ∙ sym (lt-leb (a + n) (length d) (omega arith))
        go (no l) = le-leb n (length d - a) (omega arith) ∙ sym (le-leb (a + n) (length d) (omega arith))

    -- and the other way
    pub inside : bytes_fit d a n ≡ true → a + n ≤ length d
    inside e = leb-true (a + n) (length d) (ends ∙ e)

-- ---- a pattern

module _ (P d : List ℕ) (p : ℕ) where
  pub no_pattern : ltb p (pattern_rows P) ≡ false → false ≡ pattern_fits P d p
  unfolding pattern_fits
  no_pattern e = not_first (bytes_fit d (pattern_start P p) (pattern_len P p)) e

  pub by_bytes : {a n : ℕ} {r : Bool} → ltb p (pattern_rows P) ≡ true → a ≡ pattern_start P p → n ≡ pattern_len P p → r ≡ bytes_fit d a n → r ≡ pattern_fits P d p
  unfolding pattern_fits
  by_bytes e q s h = then_second e (h ∙ ap₂ (bytes_fit d) q s)

  module _ (fits : pattern_fits P d p ≡ true) where
    pub in_table : p < pattern_rows P
    unfolding pattern_fits
    in_table = ltb-true p (pattern_rows P) (first_of (ltb p (pattern_rows P)) (bytes_fit d (pattern_start P p) (pattern_len P p)) fits)

    pub in_data : {a n : ℕ} → a ≡ pattern_start P p → n ≡ pattern_len P p → (n ≡ 0 → ⊥) → a + n ≤ length d
    unfolding pattern_fits
    in_data {a} {n} q s f =
        inside d a n f (ap₂ (bytes_fit d) q s ∙ second_of (ltb p (pattern_rows P)) (bytes_fit d (pattern_start P p) (pattern_len P p)) fits)

  module _ (label : List ℕ) {n : ℕ} (s : n ≡ pattern_len P p) where
    -- an empty pattern matches the empty label
    pub matches_empty : n ≡ 0 → eqb (length label) 0 ≡ pattern_matches label P d p
    unfolding pattern_matches match_of
    matches_empty e = over_none label ∙ ap (λ (m : ℕ). match_of (part d (pattern_start P p) m) label) (sym e ∙ s)
      where
        over_none : (l : List ℕ) → eqb (length l) 0 ≡ match_of [] l
        over_none [] = refl
        over_none (b ∷ l) = ne_eqb (length (b ∷ l)) 0 (λ e. omega arith)

    pub matches_part : {a : ℕ} {r : Bool} → a ≡ pattern_start P p → r ≡ match_of (take (a + n - a) (drop a d)) label → r ≡ pattern_matches label P d p
    unfolding pattern_matches
    matches_part {a} q h =
        let e : a + n - a ≡ n = omega arith in
        h ∙ ap (λ (m : ℕ). match_of (part d a m) label) e ∙ ap₂ (λ (b m : ℕ). match_of (part d b m) label) q s

-- ---- a row

module _ (Q P d : List ℕ) (q : ℕ) where
  pub row_fits_lem : {f m : ℕ} {r : Bool} → f ≡ question_first Q q → m ≡ question_patterns Q q → r ≡ all (λ k. pattern_fits P d (f + k)) 0 m → r ≡ row_fits Q P d q
  unfolding row_fits
  row_fits_lem e n h = h ∙ ap₂ (λ (f m : ℕ). all (λ k. pattern_fits P d (f + k)) 0 m) e n

  -- each of its patterns
  pub row_each : {f m : ℕ} → f ≡ question_first Q q → m ≡ question_patterns Q q → row_fits Q P d q ≡ true → (k : ℕ) → k < m → pattern_fits P d (f + k) ≡ true
  unfolding row_fits
  row_each {f} {m} e n h k l = all_each (λ j. pattern_fits P d (f + j)) 0 m (ap₂ (λ (f m : ℕ). all (λ k. pattern_fits P d (f + k)) 0 m) e n ∙ h) k (omega arith) (omega arith)

  pub row_matches_lem : (label : List ℕ) {f m : ℕ} {r : Bool} → f ≡ question_first Q q → m ≡ question_patterns Q q → r ≡ some (λ k. pattern_matches label P d (f + k)) 0 m → r ≡ row_matches label Q P d q
  unfolding row_matches
  row_matches_lem label e n h = h ∙ ap₂ (λ (f m : ℕ). some (λ k. pattern_matches label P d (f + k)) 0 m) e n

-- ---- all rows

module _ (Q P d : List ℕ) where
  pub rows_fit_lem : {n : ℕ} {r : Bool} → n ≡ question_rows Q → r ≡ all (row_fits Q P d) 0 n → r ≡ rows_fit Q P d
  unfolding rows_fit
  rows_fit_lem e h = h ∙ ap (all (row_fits Q P d) 0) e

  pub rows_each : rows_fit Q P d ≡ true → (q : ℕ) → q < question_rows Q → row_fits Q P d q ≡ true
  unfolding rows_fit
  rows_each h q l = all_each (row_fits Q P d) 0 (question_rows Q) h q (omega arith) (omega arith)

-- ---- the bytes, while they are written

pub record Filling (f : ℕ → Bool) (rows : ℕ) (before now : List ℕ) (q : ℕ) : Type 0 where
  pub within : q ≤ rows
  pub long : length now ≡ length before
  pub stored : sets now q (bytes_from f q (rows - q)) ≡ sets before 0 (bytes_from f 0 rows)

module _ (f : ℕ → Bool) (rows : ℕ) (before : List ℕ) where
  pub filling_none : Filling f rows before before 0
  filling_none = let e : rows - 0 ≡ rows = omega arith in record { within = omega arith; long = refl; stored = ap (λ (n : ℕ). sets before 0 (bytes_from f 0 n)) e }

  module _ (now : List ℕ) (q : ℕ) (s : Filling f rows before now q) where
    pub filling_more : {b : Bool} → q < rows → b ≡ f q → Filling f rows before (set now q (byte_of b)) (q + 1)
    unfolding bytes_from
    filling_more {b} h e =
        let n : rows - q ≡ suc (rows - (q + 1)) = omega arith in
        record {
          within = omega arith;
          long = length-set now q (byte_of b) ∙ s.long;
          stored =
              ap₂ (λ (c : ℕ) (l : List ℕ). sets l c (bytes_from f c (rows - (q + 1)))) (add-one q) (ap (λ (t : Bool). set now q (byte_of t)) e)
              ∙ sym (ap (λ (m : ℕ). sets now q (bytes_from f q m)) n) ∙ s.stored;
        }

    pub filling_end : rows ≤ q → now ≡ sets before 0 (bytes_from f 0 rows)
    unfolding bytes_from
    filling_end h = let n : rows - q ≡ 0 = omega arith in sym (ap (λ (m : ℕ). sets now q (bytes_from f q m)) n) ∙ s.stored

module _ (label Q P d before : List ℕ) where
  pub filled : {n : ℕ} {now : List ℕ} → n ≡ question_rows Q → now ≡ sets before 0 (bytes_from (row_matches label Q P d) 0 n) → now ≡ sets before 0 (answer_bytes label Q P d)
  unfolding answer_bytes
  filled e h = h ∙ ap (λ (n : ℕ). sets before 0 (bytes_from (row_matches label Q P d) 0 n)) e

  -- ---- the call

  number_outside : rows_fit Q P d ≡ false → answers_number Q P d (length before) ≡ 24
  unfolding answers_number
  number_outside e = ap (λ (t : Bool). cond t (cond (ltb (length before) (question_rows Q)) 20 0) 24) e

  module _ (fits : rows_fit Q P d ≡ true) where
    number_short : length before < question_rows Q → answers_number Q P d (length before) ≡ 20
    unfolding answers_number
    number_short h = ap₂ (λ (t u : Bool). cond t (cond u 20 0) 24) fits (lt-ltb (length before) (question_rows Q) h)

    number_done : question_rows Q ≤ length before → answers_number Q P d (length before) ≡ 0
    unfolding answers_number
    number_done h = ap₂ (λ (t u : Bool). cond t (cond u 20 0) 24) fits (le-ltb (length before) (question_rows Q) h)

  after : {n : ℕ} (v : Bool) → answers_number Q P d (length before) ≡ n → eqb n 0 ≡ v → cond v (sets before 0 (answer_bytes label Q P d)) before ≡ answers_after label Q P d before
  unfolding answers_after
  after v e z = sym (ap (λ (m : ℕ). cond (eqb m 0) (sets before 0 (answer_bytes label Q P d)) before) e ∙ ap (λ (t : Bool). cond t (sets before 0 (answer_bytes label Q P d)) before) z)

  pub refused_outside : rows_fit Q P d ≡ false → Answering label Q P d before 24 before
  refused_outside e = record { said = sym (number_outside e); slice = after false (number_outside e) (ne_eqb 24 0 (λ z. omega arith)) }

  pub refused_short : {n : ℕ} → rows_fit Q P d ≡ true → n ≡ question_rows Q → length before < n → Answering label Q P d before 20 before
  refused_short f e h = let q = number_short f (omega arith) in record { said = sym q; slice = after false q (ne_eqb 20 0 (λ z. omega arith)) }

  pub answered_all : {n : ℕ} {now : List ℕ} → rows_fit Q P d ≡ true → n ≡ question_rows Q → n ≤ length before → now ≡ sets before 0 (answer_bytes label Q P d) → Answering label Q P d before 0 now
  answered_all f e h w = let q = number_done f (omega arith) in record { said = sym q; slice = w ∙ after true q (eq-eqb 0 0 refl) }
