-- `tree_survey_questions::survey_questions`: by what the text begins with.
use mathlib.Core.Path.{sym, ap, ◌∙◌}
use Rattle.laws.specs.Totals.{total}
use Rattle.tree_question.specs.Questions.{questions_from, questions_at}
use Rattle.tree_survey_questions.specs.Counts.{questions_counted}
use Rattle.tree_survey_questions.proofs.survey_questions.Goals as goal

pub returns-in-Question : goal.returns-in-Question
unfolding questions_at
returns-in-Question c = c.count_questions.ensures ∙ ap (questions_counted 0 0) (ap (questions_from _) (sym c.in-Question.is ∙ c.first_item.ensures))

pub returns-in-Tree : goal.returns-in-Tree
unfolding questions_at questions_counted total
returns-in-Tree c = ap (questions_counted 0 0) (ap (questions_from _) (sym c.in-Tree.is ∙ c.first_item.ensures))
