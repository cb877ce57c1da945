-- `tree_question::first_item`: by whether a question starts.
use mathlib.Core.Path.{sym, ap, ◌∙◌}
use Rattle.tree_question.specs.Questions.{item_at}
use Rattle.tree_question.specs.declared.Item.TheVariants.{Tree}
use Rattle.tree_question.proofs.first_item.Goals as goal

pub returns-then-starts_question : goal.returns-then-starts_question
unfolding item_at
returns-then-starts_question c = rw (sym c.starts_question.ensures ∙ c.if-starts_question.true)

pub returns-else-starts_question : goal.returns-else-starts_question
unfolding item_at
returns-else-starts_question c = ap Tree c.blank_end.ensures ∙ rw (sym c.starts_question.ensures ∙ c.if-starts_question.false)
