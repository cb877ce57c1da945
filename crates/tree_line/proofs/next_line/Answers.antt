-- `tree_line::next_line`: each arm is an arm of `lineFound`.
use mathlib.Core.Path.{sym, ap, ◌∙◌}
use Rattle.tree_line.specs.Lines.{line_found, line_step_at}
use Rattle.tree_line.proofs.next_line.Goals as goal

pub returns-in-Some : goal.returns-in-Some
unfolding line_step_at
returns-in-Some c = c.after_line.ensures ∙ ap (line_found _) (sym c.in-Some.is ∙ c.parse_line.ensures)

pub returns-in-None : goal.returns-in-None
unfolding line_step_at
returns-in-None c = ap (line_found _) (sym c.in-None.is ∙ c.parse_line.ensures)
