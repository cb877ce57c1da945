-- `tree_survey_questions::survey_question`: each way out is a step of the question.
use mathlib.Core.Path.{sym, ◌∙◌}
use Rattle.tree_survey_questions.proofs.Counting.{asked_next, asked_last, asked_broken, asked_none}
use Rattle.tree_survey_questions.proofs.survey_question.Goals as goal

pub returns-in-Question : goal.returns-in-Question
returns-in-Question c = asked_next _ _ (sym c.in-Some.is ∙ c.question_head.ensures) (sym c.in-Some-count_patterns.is ∙ c.count_patterns.ensures) (sym c.in-Question.is ∙ c.after_question.ensures)

pub returns-in-Tree : goal.returns-in-Tree
returns-in-Tree c = asked_last _ _ (sym c.in-Some.is ∙ c.question_head.ensures) (sym c.in-Some-count_patterns.is ∙ c.count_patterns.ensures) (sym c.in-Tree.is ∙ c.after_question.ensures)

pub returns-in-None-count_patterns : goal.returns-in-None-count_patterns
returns-in-None-count_patterns c = asked_broken _ _ (sym c.in-Some.is ∙ c.question_head.ensures) (sym c.in-None-count_patterns.is ∙ c.count_patterns.ensures)

pub returns-in-None : goal.returns-in-None
returns-in-None c = asked_none _ _ (sym c.in-None.is ∙ c.question_head.ensures)
