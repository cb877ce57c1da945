-- `tree_survey::survey_text`: each way out is an arm of `surveyOf`.
use mathlib.Core.Path.{sym, ◌∙◌}
use Rattle.tree_survey.proofs.Whole.{no_questions, no_trees, a_negative, counted}
use Rattle.tree_survey.proofs.survey_text.Goals as goal

pub returns-then-all : goal.returns-then-all
returns-then-all c = a_negative _ _ (sym c.in-Ok.is ∙ c.survey_questions.ensures) (sym c.in-Ok-survey_trees.is ∙ c.survey_trees.ensures) c.if-all.true

pub returns-else-all : goal.returns-else-all
returns-else-all c = counted _ _ (sym c.in-Ok.is ∙ c.survey_questions.ensures) (sym c.in-Ok-survey_trees.is ∙ c.survey_trees.ensures) c.if-all.false

pub returns-in-Err-survey_trees : goal.returns-in-Err-survey_trees
returns-in-Err-survey_trees c = no_trees _ _ (sym c.in-Ok.is ∙ c.survey_questions.ensures) (sym c.in-Err-survey_trees.is ∙ c.survey_trees.ensures)

pub returns-in-Err : goal.returns-in-Err
returns-in-Err c = no_questions _ _ (sym c.in-Err.is ∙ c.survey_questions.ensures)
