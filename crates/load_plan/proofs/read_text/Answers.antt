-- `load_plan::read_text`: the survey of the questions, then of the trees.
use mathlib.Core.Path.{sym, ◌∙◌}
use Rattle.tree_survey.proofs.Whole.{no_questions, no_trees, a_negative, counted}
use Rattle.load_plan.proofs.Laws.{text_read_lem, text_state, text_broken, text_none}
use Rattle.load_plan.proofs.read_text.Goals as goal

pub returns-then-all : goal.returns-then-all
returns-then-all c = let q = (sym c.in-Ok.is ∙ c.survey_questions.ensures) in text_state _ _ q (a_negative _ _ q (sym c.in-Ok-survey_trees.is ∙ c.survey_trees.ensures) c.if-all.true)

pub returns-else-all : goal.returns-else-all
returns-else-all c = let q = (sym c.in-Ok.is ∙ c.survey_questions.ensures) in text_read_lem _ _ q (counted _ _ q (sym c.in-Ok-survey_trees.is ∙ c.survey_trees.ensures) c.if-all.false)

pub returns-in-Err-survey_trees : goal.returns-in-Err-survey_trees
returns-in-Err-survey_trees c = let q = sym c.in-Ok.is ∙ c.survey_questions.ensures in text_broken _ _ q (no_trees _ _ q (sym c.in-Err-survey_trees.is ∙ c.survey_trees.ensures))

pub returns-in-Err : goal.returns-in-Err
returns-in-Err c = let q = sym c.in-Err.is ∙ c.survey_questions.ensures in text_none _ _ q (no_questions _ _ q)
