-- `link_find::next_name`: each way out is a step of the question.
use mathlib.Core.Path.{sym, ◌∙◌}
use Rattle.link_find.proofs.Finding.{name_next, name_last, name_broken, name_none}
use Rattle.link_find.proofs.next_name.Goals as goal

pub returns-in-Question : goal.returns-in-Question
returns-in-Question c = name_next _ _ (sym c.in-Some.is ∙ c.question_head.ensures) (sym c.in-Some-count_patterns.is ∙ c.count_patterns.ensures) (sym c.in-Question.is ∙ c.after_question.ensures)

pub returns-in-Tree : goal.returns-in-Tree
returns-in-Tree c = name_last _ _ (sym c.in-Some.is ∙ c.question_head.ensures) (sym c.in-Some-count_patterns.is ∙ c.count_patterns.ensures) (sym c.in-Tree.is ∙ c.after_question.ensures)

pub returns-in-None-count_patterns : goal.returns-in-None-count_patterns
returns-in-None-count_patterns c = name_broken _ _ (sym c.in-Some.is ∙ c.question_head.ensures) (sym c.in-None-count_patterns.is ∙ c.count_patterns.ensures)

pub returns-in-None : goal.returns-in-None
returns-in-None c = name_none _ _ (sym c.in-None.is ∙ c.question_head.ensures)
