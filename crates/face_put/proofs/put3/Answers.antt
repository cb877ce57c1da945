-- `face_put::put3`: number by number.
use native.Mathlib.Omega.{arith}
use lib.ListN.{length-set}
use Rattle.face_put.proofs.put3.Goals as goal

pub bounds-out-1 : goal.bounds-out-1
bounds-out-1 c = simp length-set (omega arith)
