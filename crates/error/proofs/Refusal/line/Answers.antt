-- `Refusal::line`: its part of what is told.
use mathlib.Core.Path.{ap}
use Rattle.error.specs.declared.Told.{Told}
use Rattle.error.proofs.Refusal.line.Goals as goal

pub returns : goal.returns
returns c = ap (λ (x : Told). x.line) c.told.ensures
