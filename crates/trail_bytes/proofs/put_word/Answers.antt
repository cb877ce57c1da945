-- `trail_bytes::put_word` meets its contract.
use Rattle.std.proofs.Common.{◌≡◌, ℕ, suc, ◌+◌, add-one, arith, length-set}
use Rattle.written.specs.Blocks.{little_endian}
use Rattle.trail_bytes.proofs.put_word.Goals as goal

add_two : (k : ℕ) → k + 2 ≡ suc (suc k)
add_two k = omega arith

add_three : (k : ℕ) → k + 3 ≡ suc (suc (suc k))
add_three k = omega arith

pub bounds-t-k-2 : goal.bounds-t-k-2
bounds-t-k-2 c = simp length-set (omega arith)

pub bounds-t-k-3 : goal.bounds-t-k-3
bounds-t-k-3 c = simp length-set (omega arith)

pub bounds-t-k-4 : goal.bounds-t-k-4
bounds-t-k-4 c = simp length-set (omega arith)

pub returns : goal.returns
unfolding little_endian
returns c = rw (add-one, add_two, add_three)
