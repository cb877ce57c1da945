-- `text_spaces::past_brace`: the byte past a run.
use mathlib.Core.Path.{ap, ◌∙◌}
use Rattle.written.specs.Bytes.{unbrace}
use Rattle.text_spaces.specs.Spaces.{past_byte, close_at}
use Rattle.text_spaces.proofs.past_brace.Goals as goal

pub returns : goal.returns
unfolding close_at
returns c = c.past_byte.ensures ∙ ap (past_byte unbrace _) c.blank_end.ensures
