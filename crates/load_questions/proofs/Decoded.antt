-- The rows read back: the row of a question has its name, its first pattern's row and how many it has; the row of a pattern has that pattern.
use mathlib.Core.Path.{◌≡◌, refl, ap, ap₂, ◌∙◌, subst}
use mathlib.Core.Bool.{Bool, cond}
use mathlib.Core.List.{List, [], ◌∷◌, ◌++◌}
use Prim.Native.Nat.{ℕ, suc, ◌+◌, ◌*◌, ◌/◌, ◌≤◌, ◌<◌}
use native.Mathlib.Omega.{arith}
use borrow.Author.Tests.{lt-ltb}
use lib.ListN.{length, get_or, take}
use lib.Seq.{sets, length-sets, get_or-append-add}
use Rattle.written.specs.Bytes.{Span}
use Rattle.written.specs.Said.{QuestionPlace}
use Rattle.written.specs.Linking.{Nth, here, there}
use Rattle.laws.proofs.Nth.{nth_inside}
use Rattle.laws.specs.Totals.{total}
use Rattle.laws.proofs.Tables.{sets_at}
use Rattle.link_order.specs.Keys.{name_at}
use Rattle.text_parts.specs.Parts.{part_inside}
use Rattle.tree_survey_questions.specs.Counts.{pattern_count}
use Rattle.load_questions.specs.Words.{span_words, pattern_words, question_words}
use Rattle.load_questions.proofs.Patterns.{span-length}
use Rattle.load_questions.proofs.Rows.{questions_length, patterns_length}

-- how many patterns the first e questions have
abbrev pub patterns_before : List QuestionPlace → ℕ → ℕ
patterns_before qs e = total pattern_count (take e qs)

-- ---- question rows

pub record QuestionRowIs (t : List ℕ) (e : ℕ) (q : QuestionPlace) (first : ℕ) : Type 0 where
  pub starts : get_or t (4 * e) 0 ≡ q.name.start
  pub long : get_or t (4 * e + 1) 0 ≡ q.name.len
  pub from : get_or t (4 * e + 2) 0 ≡ first
  pub count : get_or t (4 * e + 3) 0 ≡ length q.patterns

in_words : (k : ℕ) {qs : List QuestionPlace} {e : ℕ} {q : QuestionPlace} → Nth qs e q → QuestionRowIs (question_words k qs) e q (k + patterns_before qs e)
unfolding question_words total
in_words k here = record { starts = refl; long = refl; from = let z : k ≡ k + 0 = omega arith in z; count = refl }
in_words k {qs = p ∷ qs} {e = suc e} {q = q} (there r) =
    let w : QuestionRowIs (question_words (k + length p.patterns) qs) e q (k + length p.patterns + patterns_before qs e) = in_words (k + length p.patterns) r in
    let u : 4 * suc e ≡ suc (suc (suc (suc (4 * e)))) = omega arith in
    let v : 4 * suc e + 1 ≡ suc (suc (suc (suc (4 * e + 1)))) = omega arith in
    let x : 4 * suc e + 2 ≡ suc (suc (suc (suc (4 * e + 2)))) = omega arith in
    let y : 4 * suc e + 3 ≡ suc (suc (suc (suc (4 * e + 3)))) = omega arith in
    let z : k + length p.patterns + patterns_before qs e ≡ k + (length p.patterns + patterns_before qs e) = omega arith in
    record {
      starts = ap (λ (i : ℕ). get_or (question_words k (p ∷ qs)) i 0) u ∙ w.starts;
      long = ap (λ (i : ℕ). get_or (question_words k (p ∷ qs)) i 0) v ∙ w.long;
      from = ap (λ (i : ℕ). get_or (question_words k (p ∷ qs)) i 0) x ∙ w.from ∙ z;
      count = ap (λ (i : ℕ). get_or (question_words k (p ∷ qs)) i 0) y ∙ w.count;
    }

module _ (t : List ℕ) (qs : List QuestionPlace) (h : 4 * length qs ≤ length t) where
  abbrev pub asked : List ℕ
  asked = sets t 0 (question_words 0 qs)

  word_read : (i : ℕ) → i < 4 * length qs → get_or asked i 0 ≡ get_or (question_words 0 qs) i 0
  word_read i l =
      let z : i ≡ 0 + i = omega arith in
      ap (λ (j : ℕ). get_or asked j 0) z ∙ sets_at (question_words 0 qs) t 0 i 0 (omega (arith, questions_length 0 qs)) (omega (arith, questions_length 0 qs))

  module _ {e : ℕ} {q : QuestionPlace} (r : Nth qs e q) where
    pub question_row_is : QuestionRowIs (sets t 0 (question_words 0 qs)) e q (patterns_before qs e)
    question_row_is =
        let w : QuestionRowIs (question_words 0 qs) e q (0 + patterns_before qs e) = in_words 0 r in
        let l : e < length qs = nth_inside r in
        let z : 0 + patterns_before qs e ≡ patterns_before qs e = omega arith in
        record {
          starts = word_read (4 * e) (omega arith) ∙ w.starts;
          long = word_read (4 * e + 1) (omega arith) ∙ w.long;
          from = word_read (4 * e + 2) (omega arith) ∙ w.from ∙ z;
          count = word_read (4 * e + 3) (omega arith) ∙ w.count;
        }

    -- the name that linking finds in the row is the question's
    pub question_name_is : (s : List ℕ) → name_at s (sets t 0 (question_words 0 qs)) e ≡ part_inside s q.name.start q.name.len
    unfolding name_at
    question_name_is s =
        let l : e < length qs = nth_inside r in
        let n : length asked ≡ length t = length-sets t 0 (question_words 0 qs) in
        let i : e < length asked / 4 = omega arith in
        ap (λ (b : Bool). cond b (part_inside s (get_or asked (4 * e) 0) (get_or asked (4 * e + 1) 0)) []) (lt-ltb e (length asked / 4) i)
        ∙ ap₂ (part_inside s) question_row_is.starts question_row_is.long

-- ---- pattern rows

pub record PatternRowIs (t : List ℕ) (k : ℕ) (w : Span) : Type 0 where
  pub starts : get_or t (2 * k) 0 ≡ w.start
  pub long : get_or t (2 * k + 1) 0 ≡ w.len

in_spans : {ws : List Span} {m : ℕ} {w : Span} (rest : List ℕ) → Nth ws m w → PatternRowIs (span_words ws ++ rest) m w
unfolding span_words
in_spans rest here = record { starts = refl; long = refl }
in_spans {ws = p ∷ ws} {m = suc m} rest (there r) =
    let i = in_spans rest r in
    let u : 2 * suc m ≡ suc (suc (2 * m)) = omega arith in
    let v : 2 * suc m + 1 ≡ suc (suc (2 * m + 1)) = omega arith in
    record {
      starts = ap (λ (j : ℕ). get_or (span_words (p ∷ ws) ++ rest) j 0) u ∙ i.starts;
      long = ap (λ (j : ℕ). get_or (span_words (p ∷ ws) ++ rest) j 0) v ∙ i.long;
    }

-- pattern m of question e stands behind the patterns of the questions before
in_patterns : {qs : List QuestionPlace} {e m : ℕ} {q : QuestionPlace} {w : Span} → Nth qs e q → Nth q.patterns m w → PatternRowIs (pattern_words qs) (patterns_before qs e + m) w
unfolding pattern_words total
in_patterns {qs = q ∷ qs} {m = m} {w = w} here r =
    let i : PatternRowIs (pattern_words (q ∷ qs)) m w = in_spans (pattern_words qs) r in
    let z : m ≡ 0 + m = omega arith in
    subst (λ (k : ℕ). PatternRowIs (pattern_words (q ∷ qs)) k w) z i
in_patterns {qs = p ∷ qs} {e = suc e} {m = m} (there a) r =
    let i = in_patterns a r in
    let x : 2 * (length p.patterns + patterns_before qs e + m) ≡ length (span_words p.patterns) + 2 * (patterns_before qs e + m) = omega (arith, span-length p.patterns) in
    let y : 2 * (length p.patterns + patterns_before qs e + m) + 1 ≡ length (span_words p.patterns) + (2 * (patterns_before qs e + m) + 1) = omega (arith, span-length p.patterns) in
    record {
      starts = ap (λ (j : ℕ). get_or (pattern_words (p ∷ qs)) j 0) x ∙ get_or-append-add (span_words p.patterns) (pattern_words qs) (2 * (patterns_before qs e + m)) 0 ∙ i.starts;
      long = ap (λ (j : ℕ). get_or (pattern_words (p ∷ qs)) j 0) y ∙ get_or-append-add (span_words p.patterns) (pattern_words qs) (2 * (patterns_before qs e + m) + 1) 0 ∙ i.long;
    }
in_patterns {qs = []} {e = y} {m = m} {w = w} x7 r = elim x7 [ ]

pattern_in : {qs : List QuestionPlace} {e m : ℕ} {q : QuestionPlace} {w : Span} → Nth qs e q → Nth q.patterns m w → patterns_before qs e + m < total pattern_count qs
unfolding total
pattern_in here r = omega (arith, nth_inside r)
pattern_in (there a) r = omega (arith, pattern_in a r)

module _ (t : List ℕ) (qs : List QuestionPlace) (h : 2 * total pattern_count qs ≤ length t) where
  half_read : (i : ℕ) → i < 2 * total pattern_count qs → get_or (sets t 0 (pattern_words qs)) i 0 ≡ get_or (pattern_words qs) i 0
  half_read i l =
      let z : i ≡ 0 + i = omega arith in
      ap (λ (j : ℕ). get_or (sets t 0 (pattern_words qs)) j 0) z ∙ sets_at (pattern_words qs) t 0 i 0 (omega (arith, patterns_length qs)) (omega (arith, patterns_length qs))

  pub pattern_row_is : {e m : ℕ} {q : QuestionPlace} {w : Span} → Nth qs e q → Nth q.patterns m w → PatternRowIs (sets t 0 (pattern_words qs)) (patterns_before qs e + m) w
  pattern_row_is {e} {m} {q} {w} a r =
      let i : PatternRowIs (pattern_words qs) (patterns_before qs e + m) w = in_patterns a r in
      let l : patterns_before qs e + m < total pattern_count qs = pattern_in a r in
      record {
        starts = half_read (2 * (patterns_before qs e + m)) (omega arith) ∙ i.starts;
        long = half_read (2 * (patterns_before qs e + m) + 1) (omega arith) ∙ i.long;
      }
