-- `trail_plan::entries_before`: the sum so far and that of what is left is the whole.
use Prim.Native.Nat.{◌+◌, ◌*◌, ◌-◌}
use native.Mathlib.Omega.{arith}
use Rattle.pdf_blocks.proofs.Counts.{total_whole, total_on, total_none}
use Rattle.trail_plan.proofs.entries_before.Goals as goal

pub loop-t-init : goal.loop-t-init
loop-t-init c = let t = total_whole c.args.s.now c.args.at c.args.k in omega arith

pub overflow_add-sum : goal.overflow_add-sum
overflow_add-sum c =
    let t = total_on c.args.s.now c.args.at c.loop-t.t c.args.k c.loop-t-test.true in
    omega (arith, t, c.loop-t.invariant, c.word.ensures, c.requires.1)

pub loop-t-preserved : goal.loop-t-preserved
loop-t-preserved c =
    let t = total_on c.args.s.now c.args.at c.loop-t.t c.args.k c.loop-t-test.true in
    omega (arith, t, c.loop-t.invariant, c.word.ensures)

pub returns : goal.returns
returns c =
    let t = total_none c.args.s.now (c.args.at + 4 * c.loop-t.t) (c.args.k - c.loop-t.t) (omega arith) in
    omega (arith, t, c.loop-t.invariant)
