-- `trail_bytes::sum_on`: the sum so far is that of the bytes before.
use Rattle.std.proofs.Common.{◌≡◌, ◌+◌, ◌%◌, ◌^◌, take}
use Rattle.written.specs.Blocks.{total}
use Rattle.trail_bytes.proofs.sum_on.Given as goal

abbrev pub invariant-loop-b : goal.invariant-loop-b
invariant-loop-b l = l.x ≡ (l.sum + total (take l.b-index l.b-items)) % 2 ^ 32
