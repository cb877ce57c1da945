-- `tree_survey::survey_tree`: each way out is a step of the tree.
use mathlib.Core.Path.{sym, ◌∙◌}
use Rattle.tree_survey.proofs.Counting.{followed_next, followed_end, followed_other, followed_none}
use Rattle.tree_survey.proofs.survey_tree.Goals as goal

pub returns-in-Next : goal.returns-in-Next
returns-in-Next c = followed_next _ _ (sym c.in-Some.is ∙ c.count_tree.ensures) (sym c.in-Next.is ∙ c.after_tree.ensures)

pub returns-in-End : goal.returns-in-End
returns-in-End c = followed_end _ _ (sym c.in-Some.is ∙ c.count_tree.ensures) (sym c.in-End.is ∙ c.after_tree.ensures)

pub returns-in-Broken : goal.returns-in-Broken
returns-in-Broken c = followed_other _ _ (sym c.in-Some.is ∙ c.count_tree.ensures) (sym c.in-Broken.is ∙ c.after_tree.ensures)

pub returns-in-None : goal.returns-in-None
returns-in-None c = followed_none _ _ (sym c.in-None.is ∙ c.count_tree.ensures)
