-- The words that are stored are the rows of `written`, one after the other.
use mathlib.Core.Path.{◌≡◌, refl, sym, ap, ap₂, ◌∙◌}
use mathlib.Core.List.{List, [], ◌∷◌, ◌++◌, map, flatten}
use Prim.Native.Nat.{ℕ, ◌+◌, ◌*◌}
use native.Mathlib.Omega.{arith}
use lib.ListN.{length, length-append}
use Rattle.written.specs.Bytes.{Span}
use Rattle.written.specs.Said.{QuestionPlace}
use Rattle.written.specs.Tables.{pattern_row, pattern_rows, question_rows}
use Rattle.laws.specs.Totals.{total}
use Rattle.laws.proofs.Nth.{flatten-append}
use Rattle.tree_survey_questions.specs.Counts.{pattern_count}
use Rattle.load_questions.specs.Words.{span_words, pattern_words, question_words}
use Rattle.load_questions.proofs.Patterns.{span-length}

spans_joined : (ws : List Span) → span_words ws ≡ flatten (map pattern_row ws)
unfolding span_words flatten
spans_joined [] = refl
spans_joined (w ∷ ws) = ap (λ (l : List ℕ). w.start ∷ w.len ∷ l) (spans_joined ws)

-- ---- pattern rows

pub patterns_joined : (qs : List QuestionPlace) → pattern_words qs ≡ flatten (pattern_rows qs)
unfolding pattern_words pattern_rows flatten
patterns_joined [] = refl
patterns_joined (q ∷ qs) = ap₂ ◌++◌ (spans_joined q.patterns) (patterns_joined qs) ∙ sym (flatten-append (map pattern_row q.patterns) (pattern_rows qs))

-- two words a pattern
pub patterns_length : (qs : List QuestionPlace) → length (pattern_words qs) ≡ 2 * total pattern_count qs
unfolding pattern_words total
patterns_length [] = refl
patterns_length (q ∷ qs) = omega (arith, length-append (span_words q.patterns) (pattern_words qs), span-length q.patterns, patterns_length qs)

-- ---- question rows

pub questions_joined : (k : ℕ) (qs : List QuestionPlace) → question_words k qs ≡ flatten (question_rows k qs)
unfolding question_words question_rows flatten
questions_joined k [] = refl
questions_joined k (q ∷ qs) =
    ap (λ (l : List ℕ). q.name.start ∷ q.name.len ∷ k ∷ length q.patterns ∷ l) (questions_joined (k + length q.patterns) qs)

-- four words a question
pub questions_length : (k : ℕ) (qs : List QuestionPlace) → length (question_words k qs) ≡ 4 * length qs
unfolding question_words
questions_length k [] = refl
questions_length k (q ∷ qs) = omega (arith, questions_length (k + length q.patterns) qs)
