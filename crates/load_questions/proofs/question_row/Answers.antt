-- `load_questions::question_row`: each way through is the answer.
use mathlib.Core.Path.{sym, ◌∙◌}
use Rattle.load_questions.proofs.Laws.{row_next, row_last, row_broken, row_none}
use Rattle.load_questions.proofs.question_row.Goals as goal

pub returns-in-Question : goal.returns-in-Question
returns-in-Question c = row_next _ _ (sym c.in-Some.is ∙ c.question_head.ensures) (sym c.in-Some-count_patterns.is ∙ c.count_patterns.ensures) (sym c.in-Question.is ∙ c.after_question.ensures)

pub returns-in-Tree : goal.returns-in-Tree
returns-in-Tree c = row_last _ _ (sym c.in-Some.is ∙ c.question_head.ensures) (sym c.in-Some-count_patterns.is ∙ c.count_patterns.ensures) (sym c.in-Tree.is ∙ c.after_question.ensures)

pub returns-in-None-count_patterns : goal.returns-in-None-count_patterns
returns-in-None-count_patterns c = row_broken _ _ (sym c.in-Some.is ∙ c.question_head.ensures) (sym c.in-None-count_patterns.is ∙ c.count_patterns.ensures)

pub returns-in-None : goal.returns-in-None
returns-in-None c = row_none _ _ (sym c.in-None.is ∙ c.question_head.ensures)
