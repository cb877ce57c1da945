-- `face_put::keep_nothing`: number by number.
use mathlib.Core.Path.{ap}
use mathlib.Core.List.{List}
use Prim.Native.Nat.{ℕ}
use lib.ListN.{set}
use Rattle.face_put.proofs.keep_nothing.Goals as goal

pub returns : goal.returns
returns c = ap (λ (u : List ℕ). set u 4 0) c.put4.ensures
