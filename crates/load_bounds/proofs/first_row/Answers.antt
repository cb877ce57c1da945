-- `load_bounds::first_row`: on either side.
use mathlib.Core.Path.{sym, ap}
use mathlib.Core.Bool.{Bool}
use native.Mathlib.Omega.{arith}
use Rattle.written.specs.Sharing.{first_row}
use Rattle.load_bounds.specs.Bounds.{side_of}
use Rattle.load_bounds.proofs.first_row.Goals as goal

pub returns-then-top : goal.returns-then-top
returns-then-top c = (ap (λ (b : Bool). first_row (side_of b) c.args.rows c.args.n) (sym c.if-top.true), omega (arith, c.requires))
