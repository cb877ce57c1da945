-- What the call promises is what `written` says of a label's answers, both ways: `answers-said`, `said-answers`.
use mathlib.Core.Path.{◌≡◌, refl, sym, ap, ap₂, ◌∙◌, subst}
use mathlib.Core.Bool.{Bool, true, false, ◌&&◌}
use mathlib.Core.List.{List, [], ◌∷◌, ◌++◌, Forall₂}
use Prim.Native.Nat.{ℕ, zero, suc, ◌+◌, ◌-◌, ◌≤◌, ◌<◌}
use native.Mathlib.Decide.{dec_lt}
use native.Mathlib.Omega.{arith}
use borrow.Author.Tests.{lt-ltb, ltb-true, le-leb}
use lib.Dec.{ltb}
use lib.ListN.{length, drop}
use lib.Seq.{sets}
use Rattle.written.specs.Bytes.{part}
use Rattle.written.specs.Linking.{Nth, Row}
use Rattle.written.specs.Matching.{PatternFits, RowFits, Yes, by, AnswerByte, yes_byte, no_byte, Answered, outside, short, filled}
use Rattle.written.proofs.Answers.{answered_once}
use Rattle.laws.specs.Every.{all}
use Rattle.laws.proofs.Every.{both, first_of, second_of, all_each, each_all, some_at, at_some}
use Rattle.laws.proofs.Tables.{sets-front}
use Rattle.table_rows.specs.Rows.{question_rows, question_first, question_patterns, pattern_rows, pattern_start, pattern_len, question_row, pattern_row, rows_from, question_table, pattern_table}
use Rattle.table_rows.proofs.Stand.{all_there, row_of, length_from}
use Rattle.label_match.specs.Matched.{match_of}
use Rattle.label_match.proofs.Matched.{match_sound, match_complete}
use Rattle.label_answers.specs.Answering.{bytes_fit, pattern_fits, row_fits, rows_fit, pattern_matches, row_matches, byte_of, bytes_from, answer_bytes, Answering}
use Rattle.label_answers.proofs.Laws.{no_bytes, by_room, inside, refused_outside, refused_short, answered_all}

never : {b : Bool} → b ≡ true → b ≡ false → ⊥
never p q = let z : ◌≡◌ {A = ℕ} 0 1 = cc in omega arith

module _ (P d : List ℕ) where
  -- ---- a pattern

  pattern_row_lem : (p : ℕ) → p < pattern_rows P → Nth (pattern_table P) p (pattern_row P p)
  unfolding pattern_table
  pattern_row_lem p h = all_there (pattern_row P) (pattern_rows P) p h

  row_pattern : {p : ℕ} {r : Row} → Nth (pattern_table P) p r → (p < pattern_rows P) × (r ≡ pattern_row P p)
  unfolding pattern_table
  row_pattern h = row_of (pattern_row P) (pattern_rows P) h

  fits_pattern : (p : ℕ) → pattern_fits P d p ≡ true → PatternFits (pattern_table P) d p
  unfolding pattern_fits
  fits_pattern p e =
      let t : p < pattern_rows P = ltb-true p (pattern_rows P) (first_of (ltb p (pattern_rows P)) (bytes_fit d (pattern_start P p) (pattern_len P p)) e) in
      let b : bytes_fit d (pattern_start P p) (pattern_len P p) ≡ true = second_of (ltb p (pattern_rows P)) (bytes_fit d (pattern_start P p) (pattern_len P p)) e in
      PatternFits.fits (pattern_row_lem p t) (λ j h. let i = inside d (pattern_start P p) (pattern_len P p) (λ z. omega arith) b in omega arith)

  pattern_fits_lem : (p : ℕ) → PatternFits (pattern_table P) d p → pattern_fits P d p ≡ true
  unfolding pattern_fits
  pattern_fits_lem p (PatternFits.fits {a = a} {n = n} h f) =
      let r = row_pattern h in
      let x : a ≡ pattern_start P p = let e : a ∷ n ∷ [] ≡ pattern_row P p = r.1 in cc in
      let y : n ≡ pattern_len P p = let e : a ∷ n ∷ [] ≡ pattern_row P p = r.1 in cc in
      both (lt-ltb p (pattern_rows P) r.0) (sym (ap₂ (bytes_fit d) x y) ∙ there (dec_lt 0 n))
    where
      there : Dec (0 < n) → bytes_fit d a n ≡ true
      there (no l) = sym (no_bytes d a n (omega arith))
      there (yes l) =
          let q : a + n ≤ length d = let z = f (n - 1) (omega arith) in omega arith in
          sym (by_room d a n (λ z. omega arith) (omega arith)) ∙ le-leb n (length d - a) (omega arith)

  -- ---- a row

  module _ (Q : List ℕ) (q : ℕ) where
    fits_row : row_fits Q P d q ≡ true → RowFits (pattern_table P) d (question_row Q q)
    unfolding row_fits
    fits_row e = RowFits.fits {f = question_first Q q} {m = question_patterns Q q} (λ k h. fits_pattern (question_first Q q + k) (all_each (λ j. pattern_fits P d (question_first Q q + j)) 0 (question_patterns Q q) e k (omega arith) (omega arith)))

    row_fits_lem : RowFits (pattern_table P) d (question_row Q q) → row_fits Q P d q ≡ true
    unfolding row_fits
    row_fits_lem (RowFits.fits f) = each_all (λ j. pattern_fits P d (question_first Q q + j)) 0 (question_patterns Q q) (λ i a b. pattern_fits_lem (question_first Q q + i) (f i (omega arith)))

    module _ (label : List ℕ) where
      matches_yes : row_fits Q P d q ≡ true → row_matches label Q P d q ≡ true → Yes (pattern_table P) d label (question_row Q q)
      unfolding row_fits row_matches pattern_matches pattern_fits
      matches_yes f e =
          let s = some_at (λ k. pattern_matches label P d (question_first Q q + k)) 0 (question_patterns Q q) e in
          let p = question_first Q q + s.0 in
          let t = all_each (λ j. pattern_fits P d (question_first Q q + j)) 0 (question_patterns Q q) f s.0 s.1 s.2 in
          let i : p < pattern_rows P = ltb-true p (pattern_rows P) (first_of (ltb p (pattern_rows P)) (bytes_fit d (pattern_start P p) (pattern_len P p)) t) in
          by {f = question_first Q q} {m = question_patterns Q q} {k = s.0} (omega (arith, s.2)) (pattern_row_lem p i) (match_sound (part d (pattern_start P p) (pattern_len P p)) label s.3)

      yes_matches : Yes (pattern_table P) d label (question_row Q q) → row_matches label Q P d q ≡ true
      unfolding row_matches pattern_matches
      yes_matches (by {k = k} {a = a} {n = n} h r m) =
          let p = question_first Q q + k in
          let w : a ∷ n ∷ [] ≡ pattern_row P p = (row_pattern r).1 in
          let x : a ≡ pattern_start P p = cc in
          let y : n ≡ pattern_len P p = cc in
          at_some (λ j. pattern_matches label P d (question_first Q q + j)) 0 (question_patterns Q q) k (omega arith) (omega arith)
          (ap₂ (λ (b m : ℕ). match_of (part d b m) label) (sym x) (sym y) ∙ match_complete m)

      answer_byte : row_fits Q P d q ≡ true → AnswerByte (pattern_table P) d label (question_row Q q) (byte_of (row_matches label Q P d q))
      answer_byte f = go (row_matches label Q P d q) refl
        where
          go : (b : Bool) → row_matches label Q P d q ≡ b → AnswerByte (pattern_table P) d label (question_row Q q) (byte_of b)
          go true e = yes_byte (matches_yes f e)
          go false e = no_byte (λ y. never (yes_matches y) e)

-- ---- all rows

-- a test that isn't passed everywhere fails somewhere
all_not : (p : ℕ → Bool) (k n : ℕ) → all p k n ≡ false → (i : ℕ) × (k ≤ i) × (i < k + n) × (p i ≡ false)
unfolding all
all_not p k zero e = let z : ◌≡◌ {A = ℕ} 0 1 = cc in absurd (omega arith)
all_not p k (suc n) e = go (p k) refl e (all_not p (suc k) n)
  where
    go : (b : Bool) → p k ≡ b → (b && all p (suc k) n) ≡ false → (all p (suc k) n ≡ false → (i : ℕ) × (suc k ≤ i) × (i < suc k + n) × (p i ≡ false))
        → (i : ℕ) × (k ≤ i) × (i < k + suc n) × (p i ≡ false)
    go true q e r = let f = r e in (f.0, omega (arith, f.1), omega (arith, f.2), f.3)
    go false q e r = (k, omega arith, omega arith, q)

length-bytes : (f : ℕ → Bool) (q n : ℕ) → length (bytes_from f q n) ≡ n
unfolding bytes_from
length-bytes f q zero = refl
length-bytes f q (suc n) = ap suc (length-bytes f (suc q) n)

each_byte : {R : Row → ℕ → Type 0} (row : ℕ → Row) (f : ℕ → Bool) (i n : ℕ) → ((q : ℕ) → i ≤ q → q < i + n → R (row q) (byte_of (f q))) → Forall₂ R (rows_from row i n) (bytes_from f i n)
unfolding rows_from bytes_from
each_byte row f i zero g = Forall₂.nil
each_byte row f i (suc n) g = Forall₂.cons (g i (omega arith) (omega arith)) (each_byte row f (suc i) n (λ q a b. g q (omega arith) (omega arith)))

module _ (label Q P d before : List ℕ) where
  question_row_lem : (q : ℕ) → q < question_rows Q → Nth (question_table Q) q (question_row Q q)
  unfolding question_table
  question_row_lem q h = all_there (question_row Q) (question_rows Q) q h

  questions_many : length (question_table Q) ≡ question_rows Q
  unfolding question_table
  questions_many = length_from (question_row Q) 0 (question_rows Q)

  all_fit : rows_fit Q P d ≡ true → (q : ℕ) (r : Row) → Nth (question_table Q) q r → RowFits (pattern_table P) d r
  unfolding question_table rows_fit
  all_fit e q r h =
      let w = row_of (question_row Q) (question_rows Q) h in
      subst (RowFits (pattern_table P) d) (sym w.1) (fits_row P d Q q (all_each (row_fits Q P d) 0 (question_rows Q) e q (omega arith) (omega (arith, w.0))))

  said_outside : rows_fit Q P d ≡ false → Answered (pattern_table P) d label (question_table Q) before 24 before
  unfolding rows_fit
  said_outside e =
      let s = all_not (row_fits Q P d) 0 (question_rows Q) e in
      outside (question_row_lem s.0 (omega (arith, s.2))) (λ f. never (row_fits_lem P d Q s.0 f) s.3)

  said_filled : rows_fit Q P d ≡ true → question_rows Q ≤ length before → Answered (pattern_table P) d label (question_table Q) before 0 (sets before 0 (answer_bytes label Q P d))
  unfolding rows_fit answer_bytes question_table
  said_filled e h =
      let bytes = bytes_from (row_matches label Q P d) 0 (question_rows Q) in
      let n : length bytes ≡ question_rows Q = length-bytes (row_matches label Q P d) 0 (question_rows Q) in
      let w : bytes ++ drop (length (question_table Q)) before ≡ sets before 0 bytes =
      ap (λ (m : ℕ). bytes ++ drop m before) (questions_many ∙ sym n) ∙ sym (sets-front before bytes (omega arith)) in
      subst (Answered (pattern_table P) d label (question_table Q) before 0) w
      (filled (all_fit e) (omega (arith, questions_many))
      (each_byte (question_row Q) (row_matches label Q P d) 0 (question_rows Q) (λ q a b. answer_byte P d Q q label (all_each (row_fits Q P d) 0 (question_rows Q) e q (omega arith) (omega arith)))))

  -- the call's answer, in one of three ways
  pub answer : (n : ℕ) × (a : List ℕ) × Answering label Q P d before n a × Answered (pattern_table P) d label (question_table Q) before n a
  answer = fits (rows_fit Q P d) refl
    where
      room : rows_fit Q P d ≡ true → Dec (length before < question_rows Q) → (n : ℕ) × (a : List ℕ) × Answering label Q P d before n a × Answered (pattern_table P) d label (question_table Q) before n a
      room e (yes h) = (20, before, refused_short label Q P d before e refl h, short (all_fit e) (omega (arith, questions_many)))
      room e (no h) = (0, sets before 0 (answer_bytes label Q P d), answered_all label Q P d before e refl (omega arith) refl, said_filled e (omega arith))

      fits : (b : Bool) → rows_fit Q P d ≡ b → (n : ℕ) × (a : List ℕ) × Answering label Q P d before n a × Answered (pattern_table P) d label (question_table Q) before n a
      fits true e = room e (dec_lt (length before) (question_rows Q))
      fits false e = (24, before, refused_outside label Q P d before e, said_outside e)

  -- what the call promises fixes number and slice
  pub answering_once : {m n : ℕ} {a b : List ℕ} → Answering label Q P d before m a → Answering label Q P d before n b → (m ≡ n) × (a ≡ b)
  answering_once x y = (x.said ∙ sym y.said, x.slice ∙ sym y.slice)

  -- it is what `written` says
  pub answers_said : {n : ℕ} {a : List ℕ} → Answering label Q P d before n a → Answered (pattern_table P) d label (question_table Q) before n a
  answers_said {n} {a} x =
      let e = answering_once answer.2 x in
      subst (Answered (pattern_table P) d label (question_table Q) before n) e.1
      (subst (λ (m : ℕ). Answered (pattern_table P) d label (question_table Q) before m answer.1) e.0 answer.3)

  -- and what `written` says is what it promises
  pub said_answers : {n : ℕ} {a : List ℕ} → Answered (pattern_table P) d label (question_table Q) before n a → Answering label Q P d before n a
  said_answers {n} {a} x =
      let e = answered_once answer.3 x in
      subst (Answering label Q P d before n) e.1 (subst (λ (m : ℕ). Answering label Q P d before m answer.1) e.0 answer.2)
