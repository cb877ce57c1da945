-- The questions of a tree text as words of the tables: question rows of four words, pattern rows of two (01, 'Linking and tables').
-- Also what is answered of one question.
use Rattle.text_parts.specs.declared.Span.{Span as Piece}
use Rattle.text_parts.specs.declared.Read.{Read}
use Rattle.std.specs.declared.option.Option.{Option}
use Rattle.std.specs.Prelude.{◌≡◌, List, [], ◌∷◌, ◌++◌, ℕ, ◌+◌, length, Some, None}
use Rattle.written.specs.Bytes.{Span}
use Rattle.written.specs.Said.{QuestionPlace}
use Rattle.laws.specs.Steps.{done_at, Reading}
use Rattle.tree_question.specs.Questions.{head_at, patterns_at, after_question}
use Rattle.tree_question.specs.declared.Item.{Item}
use Rattle.tree_question.specs.declared.Item.TheVariants as item
use Rattle.tree_survey_questions.specs.Counts.{patterns_counted}
use Rattle.load_questions.specs.declared.QuestionRow.{QuestionRow}
use Rattle.load_questions.specs.declared.QuestionRow.TheVariants.{Next, Last, Broken}

-- questions that can be read: reading comes to the first tree
pub record Done (r : Reading QuestionPlace) : Type 0 where
  pub end : ℕ
  pub done : r.ending ≡ done_at end

-- ---- words of the tables

-- (start, length) of each pattern
unfoldable pub span_words : List Span → List ℕ
span_words [] = []
span_words (w ∷ ws) = w.start ∷ w.len ∷ span_words ws

-- the patterns of all questions, in order
unfoldable pub pattern_words : List QuestionPlace → List ℕ
pattern_words [] = []
pattern_words (q ∷ qs) = span_words q.patterns ++ pattern_words qs

-- (name start, length, first pattern, patterns) of each question; k is the row of the first pattern of the first of them
unfoldable pub question_words : ℕ → List QuestionPlace → List ℕ
question_words k [] = []
question_words k (q ∷ qs) = q.name.start ∷ q.name.len ∷ k ∷ length q.patterns ∷ question_words (k + length q.patterns) qs

-- ---- one question: a name of n bytes from b on, the first pattern at f, m patterns

abbrev pub row_followed : ℕ → ℕ → ℕ → ℕ → Item → QuestionRow
row_followed b n f m (item.Question j) = Next b n f m j
row_followed b n f m (item.Tree j) = Last b n f m

abbrev pub row_counted : List ℕ → ℕ → ℕ → ℕ → Option (Read ℕ) → QuestionRow
row_counted s b n f (Some r) = row_followed b n f r.value (after_question s r.next)
row_counted s b n f None = Broken

abbrev pub row_headed : List ℕ → Option (Read Piece) → QuestionRow
row_headed s (Some r) = row_counted s r.value.start r.value.len r.next (patterns_counted 0 (patterns_at s r.next))
row_headed s None = Broken

-- the question at i, and whether another follows it
unfoldable pub row_at : List ℕ → ℕ → QuestionRow
row_at s i = row_headed s (head_at s i)
