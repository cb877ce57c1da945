-- `Refusal::number`: its part of what is told.
use mathlib.Core.Path.{ap}
use Rattle.error.specs.declared.Told.{Told}
use Rattle.error.proofs.Refusal.number.Goals as goal

pub returns : goal.returns
returns c = ap (λ (x : Told). x.number) c.told.ensures
