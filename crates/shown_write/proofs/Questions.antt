-- Question and pattern rows that pass the tests say the questions of the text that is written.
use mathlib.Core.Path.{◌≡◌, refl, sym, ap, ap₂, ◌∙◌, subst}
use mathlib.Core.Bool.{Bool, true, cond, ◌&&◌}
use mathlib.Core.List.{List, [], ◌∷◌, ◌++◌}
use Prim.Native.Nat.{ℕ, zero, suc, ◌+◌, ◌-◌, ◌≤◌, ◌<◌, min}
use native.Mathlib.Omega.{arith}
use borrow.Author.Tests.{lt-ltb, ltb-true, le-leb, eqb-true}
use lib.Dec.{ltb}
use lib.ListN.{length, drop, length-take, length-drop}
use Rattle.written.specs.Bytes.{part}
use Rattle.written.specs.Said.{Question}
use Rattle.written.specs.Linking.{Row}
use Rattle.written.specs.Writing.{Among, Spells, PatternsSay, QuestionsSay}
use Rattle.laws.proofs.Every.{first_of, second_of}
use Rattle.link_order.specs.Keys.{name_at}
use Rattle.text_parts.specs.Parts.{part_inside}
use Rattle.table_rows.specs.Rows.{question_rows, question_start, question_len, question_first, question_patterns, pattern_rows, pattern_start, pattern_len, question_row, pattern_row, rows_from, question_table, pattern_table}
use Rattle.table_rows.proofs.Stand.{length_from}
use Rattle.write_parts.specs.Parts.{each, pattern_of, question_of}
use Rattle.write_parts.proofs.Laws.{pattern_there}
use Rattle.write_rows.specs.Tests.{rows_in}
use Rattle.write_rows.proofs.Outside.{name_in, its_patterns_in, pattern_in_lem}
use Rattle.write_questions.specs.Tests.{next_in, chained, questions_fit}
use Rattle.write_questions.proofs.Chain.{next_room}

-- ---- rows cut in two

pub rows_split : (row : ℕ → Row) (i a b : ℕ) → rows_from row i (a + b) ≡ rows_from row i a ++ rows_from row (i + a) b
unfolding rows_from
rows_split row i zero b =
    let e : 0 + b ≡ b = omega arith in
    let f : i ≡ i + 0 = omega arith in
    ap (rows_from row i) e ∙ ap (λ (j : ℕ). rows_from row j b) f
rows_split row i (suc a) b =
    let e : suc a + b ≡ suc (a + b) = omega arith in
    let f : suc i + a ≡ i + suc a = omega arith in
    ap (rows_from row i) e ∙ ap (λ (l : List Row). row i ∷ l) (rows_split row (suc i) a b ∙ ap (λ (j : ℕ). rows_from row (suc i) a ++ rows_from row j b) f)

-- ---- strings

module _ (d : List ℕ) (a n : ℕ) (h : Among a n (length d)) where
  pub whole : length (part d a n) ≡ n
  whole = go n refl
    where
      size : length (part d a n) ≡ min n (length d - a)
      size = length-take n (drop a d) ∙ ap (min n) (length-drop a d)

      go : (j : ℕ) → n ≡ j → length (part d a n) ≡ n
      go zero q = omega (arith, size)
      go (suc j) q = omega (arith, size, h j (omega arith))

  pub spells : {w : List ℕ} → part d a n ≡ w → Spells d a n w
  spells q = record { bytes_of = q; all_there = ap length (sym q) ∙ whole }

module _ (d Q : List ℕ) (q : ℕ) (l : q < question_rows Q) (h : Among (question_start Q q) (question_len Q q) (length d)) (z : 0 < question_len Q q) where
  pub name_is : part d (question_start Q q) (question_len Q q) ≡ name_at d Q q
  unfolding name_at part_inside
  name_is =
      let e : question_start Q q + question_len Q q ≤ length d = omega (arith, h (question_len Q q - 1) (omega arith)) in
      sym (ap (λ (b : Bool). cond b (part_inside d (question_start Q q) (question_len Q q)) []) (lt-ltb q (question_rows Q) l)
      ∙ ap₂ (λ (b c : Bool). cond (b && c) (part d (question_start Q q) (question_len Q q)) []) (le-leb (question_start Q q) (length d) (omega arith)) (le-leb (question_len Q q) (length d - question_start Q q) (omega arith)))

-- what the test of one question says
pub next_says : (Q P : List ℕ) (k q : ℕ) → next_in Q P k q ≡ true → (0 < question_len Q q) × (question_first Q q ≡ k)
unfolding next_in
next_says Q P k q e = (
  ltb-true 0 (question_len Q q) (first_of _ _ e),
  eqb-true (question_first Q q) k (first_of _ _ (second_of (ltb 0 (question_patterns Q q)) _ (second_of (ltb 0 (question_len Q q)) _ e))),
)

-- ---- all of them

module _ (d Q P T R : List ℕ) (inside : rows_in d Q P T R ≡ true) where
  patterns_say : (f k n : ℕ) → ((j : ℕ) → j < k + n → f + j < pattern_rows P) → PatternsSay d (rows_from (pattern_row P) (f + k) n) (each (pattern_of d P f) k n)
  unfolding rows_from each
  patterns_say f k zero h = PatternsSay.none
  patterns_say f k (suc n) h =
      let l : f + k < pattern_rows P = h k (omega arith) in
      let s = spells d (pattern_start P (f + k)) (pattern_len P (f + k)) (pattern_in_lem d Q P T R inside (f + k) l) (pattern_there d P f k (lt-ltb (f + k) (pattern_rows P) l) refl refl) in
      let e : f + suc k ≡ suc (f + k) = omega arith in
      PatternsSay.more s (subst (λ (i : ℕ). PatternsSay d (rows_from (pattern_row P) i n) (each (pattern_of d P f) (suc k) n)) e (patterns_say f (suc k) n (λ j m. h j (omega arith))))

  say_as : {k : ℕ} {A B M N : List Row} {qs : List Question} → A ≡ B → M ≡ N → QuestionsSay d k A M qs → QuestionsSay d k B N qs
  say_as {k} {A} {B} {M} {N} {qs} u v w = subst (λ (x : List Row). QuestionsSay d k x N qs) u (subst (λ (x : List Row). QuestionsSay d k A x qs) v w)

  questions_say : (q k n : ℕ) → q + n ≡ question_rows Q → k ≤ pattern_rows P → chained Q P k q n ≡ true
      → QuestionsSay d k (rows_from (question_row Q) q n) (rows_from (pattern_row P) k (pattern_rows P - k)) (each (question_of d Q P) q n)
  unfolding rows_from each chained
  questions_say q k zero s m e =
      let z : 0 ≡ pattern_rows P - k = omega (arith, eqb-true k (pattern_rows P) e) in
      subst (λ (i : ℕ). QuestionsSay d k [] (rows_from (pattern_row P) k i) []) z QuestionsSay.none
  questions_say q k (suc n) s m e = made (questions_say (suc q) (k + question_patterns Q q) n (omega arith) room (second_of (next_in Q P k q) _ e))
    where
      next : next_in Q P k q ≡ true
      next = first_of _ _ e

      room : k + question_patterns Q q ≤ pattern_rows P
      room = next_room Q P k q next

      parts : (0 < question_len Q q) × (question_first Q q ≡ k)
      parts = next_says Q P k q next

      l : q < question_rows Q
      l = omega (arith, s)

      own : List Row
      own = rows_from (pattern_row P) k (question_patterns Q q)

      many : length own ≡ question_patterns Q q
      many = length_from (pattern_row P) k (question_patterns Q q)

      rest : List Row
      rest = rows_from (pattern_row P) (k + question_patterns Q q) (pattern_rows P - (k + question_patterns Q q))

      asked : PatternsSay d own (each (pattern_of d P (question_first Q q)) 0 (question_patterns Q q))
      asked =
          let z : question_first Q q + 0 ≡ k = omega (arith, parts.1) in
          subst (λ (i : ℕ). PatternsSay d (rows_from (pattern_row P) i (question_patterns Q q)) (each (pattern_of d P (question_first Q q)) 0 (question_patterns Q q))) z
          (patterns_say (question_first Q q) 0 (question_patterns Q q) (λ j h. its_patterns_in d Q P T R inside q l j (omega arith)))

      made : QuestionsSay d (k + question_patterns Q q) (rows_from (question_row Q) (suc q) n) rest (each (question_of d Q P) (suc q) n)
          → QuestionsSay d k (question_row Q q ∷ rows_from (question_row Q) (suc q) n) (rows_from (pattern_row P) k (pattern_rows P - k)) (question_of d Q P q ∷ each (question_of d Q P) (suc q) n)
      made w =
          let c : k + question_patterns Q q ≡ k + length own = omega (arith, many) in
          let z : question_patterns Q q + (pattern_rows P - (k + question_patterns Q q)) ≡ pattern_rows P - k = omega (arith, room) in
          say_as
          (ap₂ (λ (f m : ℕ). (question_start Q q ∷ question_len Q q ∷ f ∷ m ∷ []) ∷ rows_from (question_row Q) (suc q) n) (sym parts.1) many)
          (sym (rows_split (pattern_row P) k (question_patterns Q q) (pattern_rows P - (k + question_patterns Q q))) ∙ ap (rows_from (pattern_row P) k) z)
          (QuestionsSay.more (spells d (question_start Q q) (question_len Q q) (name_in d Q P T R inside q l) (name_is d Q q l (name_in d Q P T R inside q l) parts.0)) asked
          (subst (λ (i : ℕ). QuestionsSay d i (rows_from (question_row Q) (suc q) n) rest (each (question_of d Q P) (suc q) n)) c w))

  -- the rows of questions and patterns say the text's questions
  pub said_questions : questions_fit Q P ≡ true → QuestionsSay d 0 (question_table Q) (pattern_table P) (each (question_of d Q P) 0 (question_rows Q))
  unfolding question_table pattern_table questions_fit
  said_questions e =
      let z : pattern_rows P - 0 ≡ pattern_rows P = omega arith in
      subst (λ (i : ℕ). QuestionsSay d 0 (rows_from (question_row Q) 0 (question_rows Q)) (rows_from (pattern_row P) 0 i) (each (question_of d Q P) 0 (question_rows Q))) z
      (questions_say 0 0 (question_rows Q) (omega arith) (omega arith) (first_of _ _ e))
