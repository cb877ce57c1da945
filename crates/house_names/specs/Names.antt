-- Question names by computation: each row is the last of its name. And the room that is asked for.
use Rattle.std.specs.declared.option.Option.{Option}
use Rattle.std.specs.Prelude.{◌≡◌, Bool, false, List, ℕ, ◌*◌, ◌≤◌, eqb, length, Some, None}
use Rattle.written.specs.Bytes.{same}
use Rattle.laws.specs.Every.{all}
use Rattle.laws.specs.Totals.{total}
use Rattle.link_order.specs.Keys.{name_at}
use Rattle.link_search.specs.Found.{last_below}
use Rattle.tree_question.specs.Questions.{questions_at}
use Rattle.tree_survey_questions.specs.Counts.{pattern_count}
use Rattle.load_questions.specs.Words.{Done}

abbrev pub last_is : Option ℕ → ℕ → Bool
last_is (Some row) k = eqb row k
last_is None k = false

-- row k of n is the last of its name
abbrev pub is_last : List ℕ → List ℕ → ℕ → ℕ → Bool
is_last s questions n k = last_is (last_below (λ e. same (name_at s questions e) (name_at s questions k)) n) k

unfoldable pub all_last : List ℕ → List ℕ → ℕ → Bool
all_last s questions n = all (is_last s questions n) 0 n

-- the text has n questions that can be read, and the table room for their patterns
pub record Room (s : List ℕ) (i n patterns : ℕ) : Type 0 where
  pub read : Done (questions_at s i)
  pub asked : n ≡ length (questions_at s i).items
  pub room : 2 * total pattern_count (questions_at s i).items ≤ patterns
