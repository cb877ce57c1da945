-- `table_put::put4` meets its contract.
use mathlib.Core.Path.{◌≡◌}
use Prim.Native.Nat.{ℕ, suc, ◌+◌}
use native.Mathlib.Numerals.{add-one}
use native.Mathlib.Omega.{arith}
use lib.ListN.{length-set}
use Rattle.table_put.proofs.put4.Goals as goal

add_two : (k : ℕ) → k + 2 ≡ suc (suc k)
add_two k = omega arith

add_three : (k : ℕ) → k + 3 ≡ suc (suc (suc k))
add_three k = omega arith

pub bounds-t-k-2 : goal.bounds-t-k-2
bounds-t-k-2 c = simp length-set (omega arith)

pub bounds-t-k-3 : goal.bounds-t-k-3
bounds-t-k-3 c = simp length-set (omega arith)

pub bounds-t-k-4 : goal.bounds-t-k-4
bounds-t-k-4 c = simp length-set (omega arith)

pub returns : goal.returns
returns c = rw (add-one, add_two, add_three)
