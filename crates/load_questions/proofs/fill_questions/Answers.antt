-- `load_questions::fill_questions`: from the first question on, or none.
use mathlib.Core.Path.{sym, ◌∙◌}
use Rattle.load_questions.proofs.Laws.{first_room, first_asked, none_asked}
use Rattle.load_questions.proofs.fill_questions.Goals as goal

pub fill_questions_from-requires : goal.fill_questions_from-requires
fill_questions_from-requires c = first_room _ _ (sym c.in-Question.is ∙ c.first_item.ensures) c.requires

pub returns-in-Question : goal.returns-in-Question
returns-in-Question c = first_asked _ _ (sym c.in-Question.is ∙ c.first_item.ensures) _ _ c.fill_questions_from.ensures

pub returns-in-Tree : goal.returns-in-Tree
returns-in-Tree c = none_asked _ _ (sym c.in-Tree.is ∙ c.first_item.ensures) _
