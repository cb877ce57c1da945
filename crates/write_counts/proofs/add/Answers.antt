-- `write_counts::add`: in the slice, behind it, or before it.
use Prim.Native.Nat.{◌-◌}
use Rattle.write_counts.proofs.Laws.{added_in, added_past, added_before}
use native.Mathlib.Omega.{arith}
use Rattle.write_counts.proofs.add.Goals as goal

pub overflow_add-tally : goal.overflow_add-tally
overflow_add-tally c = omega (arith, c.requires (c.args.k - c.args.base))

pub returns-then-j-tally : goal.returns-then-j-tally
returns-then-j-tally c = added_in c.args.base c.args.k c.args.tally.now c.if-base-k.true c.if-j-tally.true

pub returns-else-j-tally : goal.returns-else-j-tally
returns-else-j-tally c = added_past c.args.base c.args.k c.args.tally.now c.if-base-k.true c.if-j-tally.false

pub returns-else-base-k : goal.returns-else-base-k
returns-else-base-k c = added_before c.args.base c.args.k c.args.tally.now c.if-base-k.false
