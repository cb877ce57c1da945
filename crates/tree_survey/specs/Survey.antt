-- A tree text as it is read, and what the surveys of this crate answer of it.
use Rattle.tree_survey.specs.declared.SurveyError.TheVariants as fault
use Rattle.tree_survey.specs.declared.SurveyError.{SurveyError}
use Rattle.tree_survey.specs.declared.Survey.{Survey}
use Rattle.tree_survey.specs.declared.Trees.{Trees}
use Rattle.std.specs.declared.result.Result.{Result}
use Rattle.tree_survey.specs.declared.TreeCount.{TreeCount}
use Rattle.text_parts.specs.Parts.{read_to}
use Rattle.tree_survey_lines.specs.declared.LineSurvey.{LineSurvey}
use Rattle.text_parts.specs.declared.Read.{Read}
use Rattle.std.specs.declared.option.Option.{Option}
use Rattle.std.specs.Prelude.{Bool, true, false, cond, List, [], ℕ, ◌+◌, ℤ, pos, negsuc, length, Some, None, Ok, Err}
use Rattle.written.specs.Said.{QuestionPlace}
use Rattle.laws.specs.Steps.{Ending, done_at, broken_at, Step, next, last, broken, Reading}
use Rattle.laws.specs.Totals.{total, largest, any_of}
use Rattle.tree_question.specs.Questions.{questions_at}
use Rattle.tree_survey_questions.specs.Counts.{pattern_count}
use Rattle.tree_line.specs.Lines.{lines_at}
use Rattle.tree_survey_lines.specs.Counts.{records_of, lines_surveyed}
use Rattle.tree_body.specs.Trees.{Body, lone, braces, Tree, trees_at}
use Rattle.tree_body.specs.declared.TreeHead.{TreeHead}
use Rattle.tree_body.specs.declared.TreeHead.TheVariants as head
use Rattle.tree_survey.specs.declared.TreeSurvey.{TreeSurvey}
use Rattle.tree_survey.specs.declared.TreeSurvey.TheVariants as tree

abbrev pub tree_count : Bool → ℕ → ℕ → TreeCount
tree_count n r l = record { negative = n; records = r; lines = l }

abbrev pub trees_of : Bool → ℕ → ℕ → ℕ → Trees
trees_of n t r l = record { negative = n; trees = t; records = r; lines = l }

abbrev pub counts_of : ℕ → ℕ → ℕ → ℕ → ℕ → Survey
counts_of q p t r l = record { questions = q; patterns = p; trees = t; records = r; lines = l }

-- ---- a text as it is read

-- its questions and trees, and how reading ended
pub record Text : Type 0 where
  pub questions : List QuestionPlace
  pub trees : List Tree
  pub ending : Ending

abbrev pub text_read : List ℕ → List QuestionPlace → Ending → Text
text_read s qs (done_at i) = record { questions = qs; trees = (trees_at s i).items; ending = (trees_at s i).ending }
text_read s qs (broken_at i) = record { questions = qs; trees = []; ending = broken_at i }

unfoldable pub text_at : List ℕ → ℕ → Text
text_at s i = text_read s (questions_at s i).items (questions_at s i).ending

-- ---- what a tree needs

abbrev pub negative : ℤ → Bool
negative (pos n) = false
negative (negsuc n) = true

abbrev pub body_records : Body → ℕ
body_records (lone r) = 1
body_records (braces ls) = records_of ls

abbrev pub body_lines : Body → ℕ
body_lines (lone r) = 0
body_lines (braces ls) = length ls

abbrev pub tree_negative : Tree → Bool
tree_negative t = negative t.state

abbrev pub tree_records : Tree → ℕ
tree_records t = body_records t.body

abbrev pub tree_lines : Tree → ℕ
tree_lines t = body_lines t.body

-- ---- the answers

abbrev pub lines_counted : ℤ → Option (Read LineSurvey) → Option (Read TreeCount)
lines_counted x (Some r) = Some (read_to (tree_count (negative x) r.value.records r.value.lines) r.next)
lines_counted x None = None

-- a tree by its head
abbrev pub head_counted : List ℕ → TreeHead → Option (Read TreeCount)
head_counted s (head.Lone x r e) = Some (read_to (tree_count (negative x) 1 0) e)
head_counted s (head.Empty x e) = Some (read_to (tree_count (negative x) 0 0) e)
head_counted s (head.Lines x f) = lines_counted x (lines_surveyed (lines_at s f))
head_counted s head.NoTree = None

abbrev pub tree_surveyed : Step Tree → TreeSurvey
tree_surveyed (next t i) = tree.Next (tree_negative t) (tree_records t) (tree_lines t) i
tree_surveyed (last t i) = tree.Last (tree_negative t) (tree_records t) (tree_lines t)
tree_surveyed (broken i) = tree.Broken i

abbrev pub trees_ended : Bool → ℕ → ℕ → ℕ → Ending → Result Trees ℕ
trees_ended b n m k (done_at i) = Ok (trees_of b n m k)
trees_ended b n m k (broken_at i) = Err i

-- after n trees with m records, k lines at most and b said of their states, those that are read
unfoldable pub trees_counted : Bool → ℕ → ℕ → ℕ → Reading Tree → Result Trees ℕ
trees_counted b n m k r = trees_ended (any_of tree_negative b r.items) (n + length r.items) (m + total tree_records r.items) (largest tree_lines k r.items) r.ending

-- 18 is judged only of a text in the grammar
abbrev pub survey_ended : Text → Ending → Result Survey SurveyError
survey_ended t (done_at i) =
    cond (any_of tree_negative false t.trees) (Err fault.Negative)
    (Ok (counts_of (length t.questions) (total pattern_count t.questions) (length t.trees) (total tree_records t.trees) (largest tree_lines 0 t.trees)))
survey_ended t (broken_at i) = Err (fault.Broken i)

unfoldable pub survey_of : Text → Result Survey SurveyError
survey_of t = survey_ended t t.ending

-- the survey of a whole text
unfoldable pub survey_at : List ℕ → ℕ → Result Survey SurveyError
survey_at s i = survey_of (text_at s i)
