-- `text_spaces::past_newline`: the byte past a run.
use mathlib.Core.Path.{ap, ◌∙◌}
use Rattle.written.specs.Bytes.{newline}
use Rattle.text_spaces.specs.Spaces.{past_byte, newline_at}
use Rattle.text_spaces.proofs.past_newline.Goals as goal

pub returns : goal.returns
unfolding newline_at
returns c = c.past_byte.ensures ∙ ap (past_byte newline _) c.space_or_tab_end.ensures
