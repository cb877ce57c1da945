-- `tree_question::past_qs`: two bytes, one after the other.
use mathlib.Core.Path.{sym, ap, ◌∙◌}
use Rattle.text_spaces.specs.Spaces.{then_byte}
use Rattle.tree_question.specs.Questions.{past_qs}
use Rattle.tree_question.proofs.past_qs.Goals as goal

pub returns : goal.returns
unfolding past_qs
returns c = c.past_byte-2.ensures ∙ ap (then_byte 83 _) (sym c.in_ok-next.was ∙ c.past_byte.ensures)

pub returns-in_err-next : goal.returns-in_err-next
unfolding past_qs
returns-in_err-next c = c.from_residual.ensures ∙ ap (then_byte 83 _) (sym c.in_err-next.was ∙ c.past_byte.ensures)
