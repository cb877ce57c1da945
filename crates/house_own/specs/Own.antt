-- The first rule that the model in a task's rows breaks, by computation; and what a load has left there.
use Rattle.std.specs.Prelude.{◌≡◌, List, ℕ, ◌*◌, ◌/◌, ◌≤◌, length, take}
use Rattle.written.specs.Sharing.{Side, own}
use Rattle.tree_question.specs.Questions.{questions_at}
use Rattle.load_questions.specs.Words.{pattern_words}
use Rattle.load_plan.specs.Plans.{Sound}
use Rattle.load_plan.specs.declared.Plan.{Plan}
use Rattle.house_model.specs.Model.{rule_of}

unfoldable pub rule_in : Side → List ℕ → Plan → List ℕ → List ℕ → List ℕ → ℕ
rule_in x d p questions trees values = rule_of d p (own x 4 questions p.questions) (own x 6 trees p.trees) (own x 1 values (p.entries * p.width))

-- the plan's rows fit tables of so many numbers, and its pattern rows stand in the task's
pub record LoadedIn (x : Side) (d : List ℕ) (p : Plan) (questions : ℕ) (patterns : List ℕ) (trees values : ℕ) : Type 0 where
  pub sound : Sound d p
  pub question_rows : p.questions ≤ questions / 4
  pub pattern_rows : p.patterns ≤ length patterns / 2
  pub tree_rows : p.trees ≤ trees / 6
  pub value_rows : p.entries * p.width ≤ values
  pub there : own x 2 patterns p.patterns ≡ pattern_words (questions_at (take p.text_end d) p.text).items
