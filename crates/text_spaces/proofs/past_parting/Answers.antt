-- `text_spaces::past_parting`: blanks past the newline.
use mathlib.Core.Path.{sym, ap, ◌∙◌}
use Rattle.std.specs.Prelude.{Some}
use Rattle.written.specs.Bytes.{blank}
use Rattle.laws.specs.Runs.{stop}
use Rattle.text_spaces.specs.Spaces.{then_at, parting_at}
use Rattle.text_spaces.proofs.past_parting.Goals as goal

pub returns : goal.returns
unfolding parting_at
returns c = ap Some c.blank_end.ensures ∙ ap (then_at (stop blank _)) (sym c.in_ok-next.was ∙ c.past_newline.ensures)

pub returns-in_err-next : goal.returns-in_err-next
unfolding parting_at
returns-in_err-next c = c.from_residual.ensures ∙ ap (then_at (stop blank _)) (sym c.in_err-next.was ∙ c.past_newline.ensures)
