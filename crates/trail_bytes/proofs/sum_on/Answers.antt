-- `trail_bytes::sum_on`: the sum so far is that of the bytes before.
use Rattle.std.proofs.Common.{ℕ, ◌+◌, ◌%◌, ◌^◌, take, ap, ◌∙◌, arith}
use Rattle.trail_bytes.proofs.Numbers.{sum_none, sum_more}
use Rattle.trail_bytes.proofs.sum_on.Goals as goal

pub loop-b-init : goal.loop-b-init
loop-b-init c = sum_none c.args.sum (take c.args.end c.args.s.now) (omega (arith, c.ranges))

pub loop-b-preserved : goal.loop-b-preserved
loop-b-preserved c = sum_more c.args.sum (take c.args.end c.args.s.now) c.loop-b.invariant (c.wrapping_add_u32-x.ensures.value ∙ ap (λ (b : ℕ). (c.loop-b.x + b) % 2 ^ 32) c.wide.ensures.0) (omega arith)
