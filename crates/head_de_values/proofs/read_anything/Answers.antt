-- `head_de_values::read_anything` meets its contract.
use Rattle.laws.proofs.Runs.{stop_from}
use Rattle.head_de_values.specs.Values.{read_at, value_of, blank_value}
use Rattle.head_de_values.proofs.read_anything.Goals as goal

pub overflow_sub-span : goal.overflow_sub-span
overflow_sub-span c = rw c.until-next.ensures (stop_from _ _ _)

pub returns : goal.returns
unfolding read_at value_of blank_value
returns c = rw (c.blank-value.ensures, c.until-next.ensures, c.outer.ensures)
