-- What the surveys of this crate answer, of the patterns and questions that are read.
use Rattle.tree_survey_questions.specs.declared.Questions.{Questions}
use Rattle.std.specs.declared.result.Result.{Result}
use Rattle.text_parts.specs.declared.Read.{Read}
use Rattle.text_parts.specs.Parts.{read_to}
use Rattle.std.specs.declared.option.Option.{Option}
use Rattle.std.specs.Prelude.{ℕ, ◌+◌, length, Some, None, Ok, Err}
use Rattle.written.specs.Bytes.{Span}
use Rattle.written.specs.Said.{QuestionPlace}
use Rattle.laws.specs.Steps.{Ending, done_at, broken_at, Step, next, last, broken, Reading}
use Rattle.laws.specs.Totals.{total}
use Rattle.tree_survey_questions.specs.declared.QuestionSurvey.{QuestionSurvey}
use Rattle.tree_survey_questions.specs.declared.QuestionSurvey.TheVariants as survey

abbrev pub questions_of : ℕ → ℕ → Questions
questions_of q p = record { questions = q; patterns = p }

-- ---- patterns

abbrev pub patterns_ended : ℕ → Ending → Option (Read ℕ)
patterns_ended n (done_at e) = Some (read_to n e)
patterns_ended n (broken_at e) = None

-- after n patterns, those that are read
unfoldable pub patterns_counted : ℕ → Reading Span → Option (Read ℕ)
patterns_counted n r = patterns_ended (n + length r.items) r.ending

-- ---- questions

-- how many patterns a question has
abbrev pub pattern_count : QuestionPlace → ℕ
pattern_count q = length q.patterns

abbrev pub question_surveyed : Step QuestionPlace → QuestionSurvey
question_surveyed (next q i) = survey.Next (pattern_count q) i
question_surveyed (last q i) = survey.Last (pattern_count q) i
question_surveyed (broken i) = survey.Broken

abbrev pub questions_ended : ℕ → ℕ → Ending → Result (Read Questions) ℕ
questions_ended n m (done_at e) = Ok (read_to (questions_of n m) e)
questions_ended n m (broken_at e) = Err e

-- after n questions with m patterns, those that are read
unfoldable pub questions_counted : ℕ → ℕ → Reading QuestionPlace → Result (Read Questions) ℕ
questions_counted n m r = questions_ended (n + length r.items) (m + total pattern_count r.items) r.ending
