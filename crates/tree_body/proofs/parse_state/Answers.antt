-- `tree_body::parse_state`: each way out is an arm of `stateStarred` or of `stateOpened`.
use mathlib.Core.Path.{sym, ap, ◌∙◌}
use Rattle.written.specs.Bytes.{bracket}
use Rattle.text_spaces.specs.Spaces.{past_byte}
use Rattle.tree_body.specs.Trees.{state_opened, state_starred, state_at}
use Rattle.tree_body.proofs.parse_state.Goals as goal

pub returns : goal.returns
unfolding state_at
returns c =
    c.parse_number.ensures
    ∙ ap (state_opened _) ((sym c.in_ok-inside.was ∙ c.past_byte.ensures) ∙ ap (past_byte bracket _) c.blank_end.ensures)
    ∙ ap (state_starred _) (sym c.in_ok-past.was ∙ c.past_star.ensures)

pub returns-in_err-inside : goal.returns-in_err-inside
unfolding state_at
returns-in_err-inside c =
    c.from_residual-in_err-inside.ensures
    ∙ ap (state_opened _) ((sym c.in_err-inside.was ∙ c.past_byte.ensures) ∙ ap (past_byte bracket _) c.blank_end.ensures)
    ∙ ap (state_starred _) (sym c.in_ok-past.was ∙ c.past_star.ensures)

pub returns-in_err-past : goal.returns-in_err-past
unfolding state_at
returns-in_err-past c = c.from_residual.ensures ∙ ap (state_starred _) (sym c.in_err-past.was ∙ c.past_star.ensures)
