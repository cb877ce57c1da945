-- What is read of a text, and what its survey answers, as functions of what the text says.
use Rattle.tree_survey.specs.declared.SurveyError.TheVariants as fault
use Rattle.tree_survey.specs.declared.SurveyError.{SurveyError}
use Rattle.tree_survey.specs.declared.Survey.{Survey}
use Rattle.std.specs.declared.result.Result.{Result}
use Rattle.std.specs.Prelude.{Bool, false, cond, ℕ, ◌+◌, length, Ok, Err}
use mathlib.Core.List.{List, [], ◌∷◌, zip_with}
use Rattle.written.specs.Said as says
use Rattle.written.specs.Linking.{pdfs}
use Rattle.laws.specs.Steps.{done_at}
use Rattle.laws.specs.Totals.{total, largest, any_of}
use Rattle.tree_reference.specs.References.{index_of, same_index}
use Rattle.tree_body.specs.Trees.{tree_of}
use Rattle.tree_survey.specs.Survey.{Text, negative, counts_of}

-- the whole of s is read: its questions where they stand, its trees in code
abbrev pub text_of : List ℕ → says.Text → says.Layout → Text
text_of s t l = record { questions = l.questions; trees = zip_with tree_of t.trees l.trees; ending = done_at (length s) }

-- ---- the counts of what is said

abbrev pub said_patterns : says.Question → ℕ
said_patterns q = length q.patterns

-- the records of a tree's lines: one line with equal references needs one, else each line and each PDF reference does
unfoldable pub said_records : List says.Line → ℕ
said_records [] = 0
said_records (l ∷ []) = cond (same_index (index_of l.no) (index_of l.yes)) 1 (1 + length (pdfs (l ∷ [])))
said_records (l ∷ (k ∷ ls)) = length (l ∷ (k ∷ ls)) + length (pdfs (l ∷ (k ∷ ls)))

abbrev pub said_body_records : says.Body → ℕ
said_body_records (says.lone r) = 1
said_body_records (says.braces ls) = said_records ls

abbrev pub said_body_lines : says.Body → ℕ
said_body_lines (says.lone r) = 0
said_body_lines (says.braces ls) = length ls

abbrev pub said_negative : says.Tree → Bool
said_negative t = negative t.state

abbrev pub said_tree_records : says.Tree → ℕ
said_tree_records t = said_body_records t.body

abbrev pub said_tree_lines : says.Tree → ℕ
said_tree_lines t = said_body_lines t.body

-- the survey of what a text says
unfoldable pub said_survey : says.Text → Result Survey SurveyError
said_survey t =
    cond (any_of said_negative false t.trees) (Err fault.Negative)
    (Ok (counts_of (length t.questions) (total said_patterns t.questions) (length t.trees) (total said_tree_records t.trees) (largest said_tree_lines 0 t.trees)))
