-- `text_spaces::line_parting`: a newline found, where no tab ends the blanks, leaves the next line where they end.
use mathlib.Core.Path.{sym, ◌∙◌}
use Rattle.text_spaces.proofs.Parting.{parted, unparted}
use Rattle.text_spaces.proofs.line_parting.Goals as goal

pub returns : goal.returns
returns c = parted _ _ _ _ c.requires (λ e. c.if-byte_at-eq9.false (c.byte_at.ensures ∙ e)) (sym c.in_ok-past_newline.was ∙ c.past_newline.ensures)

pub returns-in_err-past_newline : goal.returns-in_err-past_newline
returns-in_err-past_newline c = c.from_residual.ensures ∙ unparted _ _ (sym c.in_err-past_newline.was ∙ c.past_newline.ensures)
