-- `head_sections::starts_with` meets its contract.
use Rattle.head_sections.specs.Split.{starts_at}
use mathlib.Core.Path.{sym}
use Rattle.head_sections.proofs.starts_with.Goals as goal

pub returns : goal.returns
unfolding starts_at
returns c = rw (sym c.part_of.ensures) c.same_bytes.ensures
