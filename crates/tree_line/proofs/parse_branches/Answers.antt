-- `tree_line::parse_branches`: each arm is an arm of `noRead`.
use mathlib.Core.Path.{sym, ap, ◌∙◌}
use Rattle.tree_line.specs.Lines.{no_read, branches_at}
use Rattle.tree_line.proofs.parse_branches.Goals as goal

pub returns : goal.returns
unfolding branches_at
returns c = c.parse_yes.ensures ∙ ap (no_read _) (sym c.in_ok-no.was ∙ c.parse_tree_index.ensures)

pub returns-in_err-no : goal.returns-in_err-no
unfolding branches_at
returns-in_err-no c = c.from_residual.ensures ∙ ap (no_read _) (sym c.in_err-no.was ∙ c.parse_tree_index.ensures)
