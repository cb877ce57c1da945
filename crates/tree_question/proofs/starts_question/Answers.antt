-- `tree_question::starts_question`: a blank past `QS`.
use mathlib.Core.Path.{sym, ap, ◌∙◌}
use lib.Dec.{ltb}
use Rattle.tree_question.specs.Questions.{blank_at, starts_question}
use Rattle.tree_question.proofs.starts_question.Goals as goal

pub returns-in-Some : goal.returns-in-Some
unfolding starts_question
returns-in-Some c = ap (ltb _) c.blank_end.ensures ∙ ap (blank_at _) (sym c.in-Some.is ∙ c.past_qs.ensures)

pub returns-in-None : goal.returns-in-None
unfolding starts_question
returns-in-None c = ap (blank_at _) (sym c.in-None.is ∙ c.past_qs.ensures)
