-- `load_questions::fill_all_patterns`: from the first question on, or none.
use mathlib.Core.Path.{sym, ◌∙◌}
use Rattle.load_questions.proofs.Patterns.{first_patterns, first_done, first_listed, none_listed}
use Rattle.load_questions.proofs.fill_all_patterns.Goals as goal

pub fill_patterns_from-requires : goal.fill_patterns_from-requires
fill_patterns_from-requires c = let e = (sym c.in-Question.is ∙ c.first_item.ensures) in record { done = first_done _ _ e c.requires.done; at_in_bounds = first_patterns _ _ e c.requires.at_in_bounds }

pub returns-in-Question : goal.returns-in-Question
returns-in-Question c = first_listed _ _ (sym c.in-Question.is ∙ c.first_item.ensures) _ _ c.fill_patterns_from.ensures

pub returns-in-Tree : goal.returns-in-Tree
returns-in-Tree c = none_listed _ _ (sym c.in-Tree.is ∙ c.first_item.ensures) _
