-- `text_spaces::past_line_parting`: spaces, tabs and blanks past the newline.
use mathlib.Core.Path.{sym, ap, ◌∙◌}
use Rattle.std.specs.Prelude.{Some}
use Rattle.written.specs.Bytes.{blank, space_or_tab}
use Rattle.laws.specs.Runs.{stop}
use Rattle.text_spaces.specs.Spaces.{then_at, line_parting_at}
use Rattle.text_spaces.proofs.past_line_parting.Goals as goal

pub returns : goal.returns
unfolding line_parting_at
returns c =
    ap Some (c.blank_end.ensures ∙ ap (stop blank _) c.space_or_tab_end.ensures)
    ∙ ap (then_at (λ j. stop blank _ (stop space_or_tab _ j))) (sym c.in_ok-next.was ∙ c.past_newline.ensures)

pub returns-in_err-next : goal.returns-in_err-next
unfolding line_parting_at
returns-in_err-next c = c.from_residual.ensures ∙ ap (then_at (λ j. stop blank _ (stop space_or_tab _ j))) (sym c.in_err-next.was ∙ c.past_newline.ensures)
