-- `tree_body::tree_head`: each arm is an arm of `headRead`.
use mathlib.Core.Path.{sym, ap, ◌∙◌}
use Rattle.laws.proofs.Signed.{back}
use Rattle.tree_body.specs.Trees.{body_at, head_read, head_at}
use borrow.Author.Rules.{rules}
use Rattle.tree_body.proofs.tree_head.Goals as goal

pub returns-in-Some : goal.returns-in-Some
unfolding head_at
returns-in-Some c = c.parse_body.ensures ∙ ap (body_at _ _) (back _ (search rules)) ∙ ap (head_read _) (sym c.in-Some.is ∙ c.parse_state.ensures)

pub returns-in-None : goal.returns-in-None
unfolding head_at
returns-in-None c = ap (head_read _) (sym c.in-None.is ∙ c.parse_state.ensures)
