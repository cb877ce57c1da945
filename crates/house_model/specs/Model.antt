-- The first rule that a model breaks, by computation; and what a load has left of it.
use Rattle.std.specs.Prelude.{◌≡◌, Bool, true, false, cond, List, ℕ, ◌/◌, ◌≤◌, length, take}
use Rattle.std.proofs.lemmas.List.Edits.{sets}
use Rattle.tree_question.specs.Questions.{questions_at}
use Rattle.tree_body.specs.Trees.{trees_at}
use Rattle.load_questions.specs.Words.{pattern_words}
use Rattle.load_plan.specs.Plans.{Sound}
use Rattle.load_plan.specs.declared.Plan.{Plan}
use Rattle.house_values.specs.Values.{values_good}
use Rattle.house_names.specs.Names.{all_last}
use Rattle.house_text.specs.Text.{trees_ids, trees_fit}

-- the first that is false
abbrev pub first_rule : Bool → Bool → Bool → Bool → Bool → ℕ
first_rule ids names leaves means variances = cond ids (cond names (cond leaves (cond means (cond variances 0 36) 35) 34) 33) 32

-- of a plan in the data d, with these question rows, tree rows and values
unfoldable pub rule_of : List ℕ → Plan → List ℕ → List ℕ → List ℕ → ℕ
rule_of d p questions trees values =
    first_rule (trees_ids (trees_at (take p.text_end d) p.first).items) (all_last (take p.text_end d) questions p.questions)
    (trees_fit trees (trees_at (take p.text_end d) p.first).items) (values_good false p.width values) (values_good true p.width values)

-- its pattern rows stand in front of their table, and its trees have their rows in a table of so many numbers
pub record Loaded (d : List ℕ) (p : Plan) (patterns : List ℕ) (trees : ℕ) : Type 0 where
  pub sound : Sound d p
  pub room : p.patterns ≤ length patterns / 2
  pub there : sets patterns 0 (pattern_words (questions_at (take p.text_end d) p.text).items) ≡ patterns
  pub rows : p.trees ≤ trees / 6
