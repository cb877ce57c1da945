-- `walk_bare::metered`: a PDF, or refused.
use mathlib.Core.Path.{sym, ap, ◌∙◌}
use Prim.Native.Nat.{ℕ}
use Rattle.walk_bare.specs.Bare.{refused_by, metered_of}
use Rattle.walk_bare.proofs.metered.Goals as goal

pub returns-in-Ok : goal.returns-in-Ok
returns-in-Ok c = sym (ap metered_of c.in-Ok.is)

pub returns-in-Err : goal.returns-in-Err
returns-in-Err c = c.refused_by.ensures ∙ ap (λ (x : ℕ). refused_by x 0 0) c.number.ensures ∙ sym (ap metered_of c.in-Err.is)
