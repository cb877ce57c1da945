-- Where the lines of a tree lead, line by line up to the first that leads nowhere. Lines are tested in order: yes, no, question.
use Rattle.error.specs.declared.LineFault.{LineFault}
use Rattle.error.specs.Numbers.{line_fault}
use Rattle.error.specs.declared.LinkFault.{LinkFault}
use Rattle.std.specs.declared.result.Result.{Result}
use Rattle.std.specs.declared.option.Option.{Option}
use Rattle.std.specs.Prelude.{cond, List, [], ◌∷◌, ℕ, suc, eqb, Some, None, Ok, Err}
use Rattle.written.specs.Said.{Ref}
use Rattle.error.specs.declared.LinkFault.TheVariants.{NodeRef, QuestionRef}
use Rattle.link_targets.specs.Lines.{WorkLine}
use Rattle.link_tree.specs.declared.Sides.{Sides}

abbrev pub sides : ℕ → ℕ → Sides
sides y n = record { yes = y; no = n }

-- yes and no lead somewhere: the question is left
unfoldable pub step_question : ℕ → ℕ → ℕ → Result Sides LinkFault
step_question q y n = cond (eqb q 0) (Err QuestionRef) (Ok (sides y n))

abbrev pub step_no : ℕ → ℕ → Option ℕ → Result Sides LinkFault
step_no q y (Some n) = step_question q y n
step_no q y None = Err NodeRef

abbrev pub step_yes : ℕ → Option ℕ → Option ℕ → Result Sides LinkFault
step_yes q (Some y) f = step_no q y f
step_yes q None f = Err NodeRef

-- a line, by where references lead
abbrev pub step_of : (Ref → Option ℕ) → WorkLine → Result Sides LinkFault
step_of to l = step_yes l.question (to l.yes) (to l.no)

-- ---- lines in order

-- what is said of line k, before what is said of the others
abbrev pub first : ℕ → Result Sides LinkFault → Result Unit LineFault → Result Unit LineFault
first k (Ok q) r = r
first k (Err f) r = Err (line_fault f k)

unfoldable pub outcome : (WorkLine → Result Sides LinkFault) → ℕ → List WorkLine → Result Unit LineFault
outcome S k [] = (Ok tt)
outcome S k (l ∷ ls) = first k (S l) (outcome S (suc k) ls)

abbrev pub goals_of : Result Sides LinkFault → List ℕ → List ℕ
goals_of (Ok q) r = q.yes ∷ q.no ∷ r
goals_of (Err f) r = []

-- the yes and no of the lines up to the first that leads nowhere
unfoldable pub goals : (WorkLine → Result Sides LinkFault) → List WorkLine → List ℕ
goals S [] = []
goals S (l ∷ ls) = goals_of (S l) (goals S ls)
