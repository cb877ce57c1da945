-- `tree_survey::count_tree`: each arm is an arm of `headCounted` or of `linesCounted`.
use mathlib.Core.Path.{◌≡◌, sym, ap, ◌∙◌}
use mathlib.Core.Bool.{Bool}
use Prim.Native.Nat.{ℕ}
use Rattle.text_parts.specs.Parts.{read_to}
use Rattle.std.specs.Prelude.{Some}
use Rattle.laws.proofs.Signed.{back}
use Rattle.tree_survey.specs.Survey.{negative, lines_counted, head_counted, tree_count}
use borrow.Author.Rules.{rules}
use Rattle.tree_survey.proofs.count_tree.Goals as goal

same : {a b : Bool} {m n e : ℕ} → a ≡ b → Some (read_to (tree_count a m n) e) ≡ Some (read_to (tree_count b m n) e)
same {m = m} {n = n} {e = e} p = ap (λ x. Some (read_to (tree_count x m n) e)) p

pub returns-in-Lone : goal.returns-in-Lone
returns-in-Lone c =
    same (c.is_negative.ensures ∙ ap negative (back c.in-Lone.state (search rules)))
    ∙ ap (head_counted _) (sym c.in-Lone.is ∙ c.tree_head.ensures)

pub returns-in-Empty : goal.returns-in-Empty
returns-in-Empty c =
    same (c.is_negative-in-Empty.ensures ∙ ap negative (back c.in-Empty.state (search rules)))
    ∙ ap (head_counted _) (sym c.in-Empty.is ∙ c.tree_head.ensures)

pub returns-in_ok-body-in-Lines : goal.returns-in_ok-body-in-Lines
returns-in_ok-body-in-Lines c =
    same (c.is_negative-in-Lines.ensures ∙ ap negative (back c.in-Lines.state (search rules)))
    ∙ ap (lines_counted _) (sym c.in_ok-body-in-Lines.was ∙ c.survey_lines.ensures)
    ∙ ap (head_counted _) (sym c.in-Lines.is ∙ c.tree_head.ensures)

pub returns-in_err-body-in-Lines : goal.returns-in_err-body-in-Lines
returns-in_err-body-in-Lines c =
    c.from_residual.ensures ∙ ap (lines_counted _) (sym c.in_err-body-in-Lines.was ∙ c.survey_lines.ensures)
    ∙ ap (head_counted _) (sym c.in-Lines.is ∙ c.tree_head.ensures)

pub returns-in-NoTree : goal.returns-in-NoTree
returns-in-NoTree c = ap (head_counted _) (sym c.in-NoTree.is ∙ c.tree_head.ensures)
