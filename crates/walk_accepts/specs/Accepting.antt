-- A tree of a text, chosen by its number, and whether rows are accepted for it, as the code answers.
use Rattle.error.specs.declared.LineFault.{LineFault}
use Rattle.tree_survey.specs.declared.SurveyError.TheVariants as fault
use Rattle.tree_survey.specs.declared.SurveyError.{SurveyError}
use Rattle.tree_survey.specs.declared.Survey.{Survey}
use Rattle.std.specs.declared.result.Result.{Result}
use Rattle.error.specs.declared.Refusal.{Refusal}
use Rattle.std.specs.declared.option.Option.{Option}
use Rattle.std.specs.Prelude.{cond, List, ℕ, Some, None, Ok, Err, Bool}
use Rattle.laws.specs.Steps.{Ending, done_at, broken_at}
use Rattle.error.specs.Numbers.{told_of}
use Rattle.error.specs.declared.Told as error
use Rattle.error.specs.declared.Refusal.TheVariants as refusal
use Rattle.tree_question.specs.Questions.{questions_at}
use Rattle.tree_body.specs.Trees.{head_at, trees_at}
use Rattle.tree_survey.specs.Survey.{survey_at}
use Rattle.link_find.specs.Find.{star_of}
use Rattle.link_alone.specs.Alone.{judged_head}

-- ---- the tree

abbrev pub found_tree : Option ℕ → Result ℕ Refusal
found_tree (Some i) = Ok i
found_tree None = Err refusal.WalkTable

-- where the first tree stands
abbrev pub in_text : List ℕ → ℕ → Ending → Result ℕ Refusal
in_text s t (done_at f) = found_tree (star_of (trees_at s f).items t)
in_text s t (broken_at f) = Err refusal.WalkTable

-- 17, 18, 24
abbrev pub surveyed : List ℕ → ℕ → Result Survey SurveyError → Result ℕ Refusal
surveyed s t (Ok x) = in_text s t (questions_at s 0).ending
surveyed s t (Err (fault.Broken p)) = Err (refusal.Text p)
surveyed s t (Err fault.Negative) = Err refusal.State

unfoldable pub chosen_tree : List ℕ → ℕ → Result ℕ Refusal
chosen_tree s t = surveyed s t (survey_at s 0)

-- ---- the rows

-- 21 to 23, then 37
abbrev pub accepted_of : ℕ → Result Bool LineFault → Result Unit Refusal
accepted_of t (Ok b) = cond b (Ok tt) (Err refusal.OtherRows)
accepted_of t (Err r) = Err (refusal.Unlinked r.fault t r.line)

abbrev pub accepts_at : List ℕ → ℕ → List ℕ → Result ℕ Refusal → Result Unit Refusal
accepts_at s t R (Ok i) = accepted_of t (judged_head s (questions_at s 0).items R (head_at s i))
accepts_at s t R (Err r) = Err r

unfoldable pub accepts_of : List ℕ → ℕ → List ℕ → Result Unit Refusal
accepts_of s t R = accepts_at s t R (chosen_tree s t)

-- number, place and line
abbrev pub accepts_told : Result Unit Refusal → error.Told
accepts_told (Ok tt) = record { number = 0; place = 0; line = 0 }
accepts_told (Err r) = told_of r
