-- `table_put::put2` meets its contract.
use native.Mathlib.Numerals.{add-one}
use native.Mathlib.Omega.{arith}
use lib.ListN.{length-set}
use Rattle.table_put.proofs.put2.Goals as goal

pub bounds-t-k-2 : goal.bounds-t-k-2
bounds-t-k-2 c = simp length-set (omega arith)

pub returns : goal.returns
returns c = rw add-one
