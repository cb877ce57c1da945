-- `text_parts::same_part` meets its contract.
use Rattle.written.specs.Bytes.{same}
use mathlib.Core.Path.{ap₂, ◌∙◌}
use Rattle.text_parts.proofs.same_part.Goals as goal

pub returns : goal.returns
returns c = c.same_bytes.ensures ∙ ap₂ same c.part_of.ensures c.part_of-2.ensures
