-- `tree_line::parse_line`: each way out is an arm of `lineNumbered`, `lineNamed` or `lineBranched`.
use mathlib.Core.Path.{sym, ap, ◌∙◌}
use Rattle.std.specs.Prelude.{Some}
use Rattle.laws.proofs.Signed.{back}
use Rattle.tree_line.specs.Lines.{line_branched, line_named, line_numbered, line_at, branches}
use borrow.Author.Rules.{rules}
use Rattle.tree_line.proofs.parse_line.Goals as goal

pub returns : goal.returns
unfolding line_at
returns c =
    ap (λ x. line_branched x c.in_ok-name.name.value.start c.in_ok-name.name.value.len (Some c.in_ok-branches.branches)) (back _ (search rules))
    ∙ ap (line_branched _ _ _) (sym c.in_ok-branches.was ∙ c.parse_branches.ensures)
    ∙ ap (line_named _ _) (sym c.in_ok-name.was ∙ c.name_between.ensures)
    ∙ ap (line_numbered _) (sym c.in_ok-id.was ∙ c.parse_signed.ensures)

pub returns-in_err-branches : goal.returns-in_err-branches
unfolding line_at
returns-in_err-branches c =
    c.from_residual-in_err-branches.ensures
    ∙ ap (line_branched _ _ _) (sym c.in_err-branches.was ∙ c.parse_branches.ensures)
    ∙ ap (line_named _ _) (sym c.in_ok-name.was ∙ c.name_between.ensures)
    ∙ ap (line_numbered _) (sym c.in_ok-id.was ∙ c.parse_signed.ensures)

pub returns-in_err-name : goal.returns-in_err-name
unfolding line_at
returns-in_err-name c =
    c.from_residual-in_err-name.ensures
    ∙ ap (line_named _ _) (sym c.in_err-name.was ∙ c.name_between.ensures)
    ∙ ap (line_numbered _) (sym c.in_ok-id.was ∙ c.parse_signed.ensures)

pub returns-in_err-id : goal.returns-in_err-id
unfolding line_at
returns-in_err-id c = c.from_residual.ensures ∙ ap (line_numbered _) (sym c.in_err-id.was ∙ c.parse_signed.ensures)
