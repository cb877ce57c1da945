-- Question and pattern rows that say the questions of a text pass the tests.
use mathlib.Core.Path.{◌≡◌, refl, sym, ap, ap₂, ◌∙◌, subst}
use mathlib.Core.Bool.{true}
use mathlib.Core.List.{List, [], ◌∷◌, ◌++◌}
use Prim.Native.Nat.{ℕ, zero, suc, ◌+◌, ◌-◌, ◌≤◌, ◌<◌}
use native.Mathlib.Decide.{dec_lt, ℕ_discrete}
use native.Mathlib.Omega.{arith}
use borrow.Author.Tests.{lt-ltb, le-leb, eq-eqb}
use lib.ListN.{length, get_or}
use Rattle.written.specs.Said.{Question}
use Rattle.written.specs.Linking.{Row}
use Rattle.written.specs.Writing.{PatternsSay, QuestionsSay}
use Rattle.laws.proofs.Every.{both, each_all}
use Rattle.table_rows.specs.Rows.{question_rows, question_len, question_first, question_patterns, pattern_rows, pattern_len, question_row, pattern_row, rows_from, question_table, pattern_table}
use Rattle.table_rows.proofs.Stand.{length_from}
use Rattle.write_questions.specs.Tests.{next_in, chained, some_byte, questions_fit}
use Rattle.written_back.proofs.Spelled.{All, PatternFits, QuestionFits}

-- ---- rows taken apart

pub record Cut (row : ℕ → Row) (q n : ℕ) (x : Row) (xs : List Row) : Type 0 where
  pub j : ℕ
  pub count : n ≡ suc j
  pub head : x ≡ row q
  pub tail : xs ≡ rows_from row (suc q) j

pub cons_rows : (row : ℕ → Row) (q n : ℕ) {x : Row} {xs : List Row} → x ∷ xs ≡ rows_from row q n → Cut row q n x xs
unfolding rows_from
cons_rows row q zero e = let u : ◌≡◌ {A = ℕ} 0 1 = cc in absurd (omega arith)
cons_rows row q (suc j) e = record { j = j; count = refl; head = cc; tail = cc }

pub record Parted (row : ℕ → Row) (k m : ℕ) (own rest : List Row) : Type 0 where
  pub within : length own ≤ m
  pub front : own ≡ rows_from row k (length own)
  pub back : rest ≡ rows_from row (k + length own) (m - length own)

pub part_rows : (row : ℕ → Row) (k m : ℕ) (own : List Row) {rest : List Row} → own ++ rest ≡ rows_from row k m → Parted row k m own rest
unfolding rows_from
part_rows row k m [] e =
    let a : k ≡ k + 0 = omega arith in
    let b : m ≡ m - 0 = omega arith in
    record { within = omega arith; front = refl; back = e ∙ ap₂ (rows_from row) a b }
part_rows row k m (x ∷ own) e =
    let c = cons_rows row k m e in
    let p = part_rows row (suc k) c.j own c.tail in
    let a : suc k + length own ≡ k + suc (length own) = omega arith in
    let b : c.j - length own ≡ m - suc (length own) = omega (arith, c.count) in
    record { within = omega (arith, c.count, p.within); front = ap₂ ◌∷◌ c.head p.front; back = p.back ∙ ap₂ (rows_from row) a b }

abbrev at : ℕ → Row → ℕ
at j r = get_or r j 0

module _ (d Q P : List ℕ) where
  patterns_many : {rows : List Row} {ws : List (List ℕ)} → PatternsSay d rows ws → length rows ≡ length ws
  patterns_many PatternsSay.none = refl
  patterns_many (PatternsSay.more s r) = ap suc (patterns_many r)

  -- each pattern has a byte
  patterns_back : {rows : List Row} {ws : List (List ℕ)} → PatternsSay d rows ws → (k n : ℕ) → rows ≡ rows_from (pattern_row P) k n → All PatternFits ws
      → (i : ℕ) → k ≤ i → i < k + n → 0 < pattern_len P i
  patterns_back PatternsSay.none k n e f i a b = absurd (omega (arith, ap length e, length_from (pattern_row P) k n))
  patterns_back (PatternsSay.more {n = m} s r) k n e (All.more g f) i a b =
      let c = cons_rows (pattern_row P) k n e in
      go (ℕ_discrete k i) (omega (arith, ap (at 1) c.head, s.all_there, g.some_byte)) (λ h. patterns_back r (suc k) c.j c.tail f i h (omega (arith, c.count)))
    where
      go : Dec (k ≡ i) → 0 < pattern_len P k → (suc k ≤ i → 0 < pattern_len P i) → 0 < pattern_len P i
      go (yes q) u v = subst (λ (j : ℕ). 0 < pattern_len P j) q u
      go (no q) u v = v (omega (arith, q))

  next_back : (k q : ℕ) → 0 < question_len Q q → 0 < question_patterns Q q → question_first Q q ≡ k → k + question_patterns Q q ≤ pattern_rows P → next_in Q P k q ≡ true
  unfolding next_in
  next_back k q a b c h =
      both (lt-ltb 0 (question_len Q q) a) (both (lt-ltb 0 (question_patterns Q q) b) (both (eq-eqb (question_first Q q) k c) (le-leb (k + question_patterns Q q) (pattern_rows P) h)))

  record Passes (k q n : ℕ) : Type 0 where
    chain : chained Q P k q n ≡ true
    bytes_there : (i : ℕ) → k ≤ i → i < pattern_rows P → 0 < pattern_len P i

  questions_back : {k : ℕ} {A B : List Row} {qs : List Question} → QuestionsSay d k A B qs → (q n : ℕ) → A ≡ rows_from (question_row Q) q n → B ≡ rows_from (pattern_row P) k (pattern_rows P - k)
      → k ≤ pattern_rows P → All QuestionFits qs → Passes k q n
  unfolding chained
  questions_back {k = k} QuestionsSay.none q n e g l f =
      let z : n ≡ 0 = omega (arith, ap length e, length_from (question_row Q) q n) in
      let u : k ≡ pattern_rows P = omega (arith, ap length g, length_from (pattern_row P) k (pattern_rows P - k)) in
      record { chain = ap (chained Q P k q) z ∙ eq-eqb k (pattern_rows P) u; bytes_there = λ i a b. absurd (omega arith) }
  questions_back {k = k} (QuestionsSay.more {own = own} {ws = ws} s r w) q n e g l (All.more x f) =
      let c = cons_rows (question_row Q) q n e in
      let p = part_rows (pattern_row P) k (pattern_rows P - k) own g in
      let m : length own ≡ question_patterns Q q = ap (at 3) c.head in
      let t : pattern_rows P - k - length own ≡ pattern_rows P - (k + length own) = omega arith in
      let rest = questions_back w (suc q) c.j c.tail (p.back ∙ ap (rows_from (pattern_row P) (k + length own)) t) (omega (arith, p.within)) f in
      let j : k + length own ≡ k + question_patterns Q q = omega (arith, m) in
      record {
        chain = ap (chained Q P k q) c.count ∙ both (next_back k q (omega (arith, ap (at 1) c.head, s.all_there, x.named)) (omega (arith, m, patterns_many r, x.asked)) (sym (ap (at 2) c.head)) (omega (arith, m, p.within, l)))
            (ap (λ (i : ℕ). chained Q P i (suc q) c.j) (sym j) ∙ rest.chain);
        bytes_there = λ i a b. pick i a b p.front rest.bytes_there (dec_lt i (k + length own));
      }
    where
      pick : (i : ℕ) → k ≤ i → i < pattern_rows P → own ≡ rows_from (pattern_row P) k (length own) → ((i : ℕ) → k + length own ≤ i → i < pattern_rows P → 0 < pattern_len P i) → Dec (i < k + length own) → 0 < pattern_len P i
      pick i a b o h (yes u) = patterns_back r k (length own) o x.patterns i a u
      pick i a b o h (no u) = h i (omega arith) b

  -- rows that say the questions of a text pass
  pub questions_pass : {qs : List Question} → QuestionsSay d 0 (question_table Q) (pattern_table P) qs → All QuestionFits qs → questions_fit Q P ≡ true
  unfolding question_table pattern_table questions_fit some_byte
  questions_pass s f =
      let z : pattern_rows P ≡ pattern_rows P - 0 = omega arith in
      let r = questions_back s 0 (question_rows Q) refl (ap (rows_from (pattern_row P) 0) z) (omega arith) f in
      both r.chain (each_all (some_byte P) 0 (pattern_rows P) (λ i a b. lt-ltb 0 (pattern_len P i) (r.bytes_there i (omega arith) (omega arith))))
