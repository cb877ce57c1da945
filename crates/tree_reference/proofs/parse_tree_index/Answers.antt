-- `tree_reference::parse_tree_index`: each arm is an arm of `shown_open`.
use mathlib.Core.Path.{sym, ap, ◌∙◌}
use Rattle.tree_reference.specs.References.{opened, reference_at}
use Rattle.tree_reference.proofs.parse_tree_index.Goals as goal

pub returns-in-Some : goal.returns-in-Some
unfolding reference_at
returns-in-Some c = c.parse_quoted.ensures ∙ ap (opened _ _) (sym c.in-Some.is ∙ c.past_byte.ensures)

pub returns-in_ok-bare-in-None : goal.returns-in_ok-bare-in-None
unfolding reference_at
returns-in_ok-bare-in-None c = c.found.ensures ∙ sym c.in_ok-bare-in-None.was ∙ c.parse_bare.ensures ∙ ap (opened _ _) (sym c.in-None.is ∙ c.past_byte.ensures)

pub returns-in_err-bare-in-None : goal.returns-in_err-bare-in-None
unfolding reference_at
returns-in_err-bare-in-None c = c.from_residual.ensures ∙ sym c.in_err-bare-in-None.was ∙ c.parse_bare.ensures ∙ ap (opened _ _) (sym c.in-None.is ∙ c.past_byte.ensures)
