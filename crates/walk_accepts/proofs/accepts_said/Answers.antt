-- `walk_accepts::accepts_said`: in numbers.
use mathlib.Core.Path.{sym, ap, ◌∙◌}
use Rattle.walk_accepts.specs.Accepting.{accepts_told}
use Rattle.walk_accepts.proofs.accepts_said.Goals as goal

pub returns-in-Ok : goal.returns-in-Ok
returns-in-Ok c = ap accepts_told (sym c.in-Ok.is ∙ c.accepts.ensures)

pub returns-in-Err : goal.returns-in-Err
returns-in-Err c = c.told.ensures ∙ ap accepts_told (sym c.in-Err.is ∙ c.accepts.ensures)
