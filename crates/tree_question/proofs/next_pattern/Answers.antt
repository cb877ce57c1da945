-- `tree_question::next_pattern`: each arm is an arm of `patternFound`.
use mathlib.Core.Path.{sym, ap, ◌∙◌}
use Rattle.tree_question.specs.Questions.{pattern_found, pattern_step_at}
use Rattle.tree_question.proofs.next_pattern.Goals as goal

pub returns-in-Some : goal.returns-in-Some
unfolding pattern_step_at
returns-in-Some c = c.after_pattern.ensures ∙ ap (pattern_found _) (sym c.in-Some.is ∙ c.parse_pattern.ensures)

pub returns-in-None : goal.returns-in-None
unfolding pattern_step_at
returns-in-None c = ap (pattern_found _) (sym c.in-None.is ∙ c.parse_pattern.ensures)
