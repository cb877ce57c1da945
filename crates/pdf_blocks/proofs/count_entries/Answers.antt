-- `pdf_blocks::count_entries`: the sum so far and that of what is left is the whole.
use mathlib.Core.Path.{◌≡◌, ◌∙◌}
use Prim.Native.Nat.{◌+◌, ◌*◌, ◌-◌}
use native.Mathlib.Omega.{arith}
use Rattle.written.specs.Blocks.{total}
use Rattle.pdf_blocks.specs.Values.{words_at}
use Rattle.pdf_blocks.proofs.Counts.{total_whole, total_on, total_none, cap_over, cap_in}
use Rattle.pdf_blocks.proofs.count_entries.Goals as goal

pub loop-k-init : goal.loop-k-init
loop-k-init c = let t = total_whole c.args.s.now c.args.at c.args.trees in omega arith

pub overflow_add-sum : goal.overflow_add-sum
overflow_add-sum c = omega (arith, c.word.type_inv)

pub returns-then-most-sum : goal.returns-then-most-sum
returns-then-most-sum c =
    let l = c.loop-k in
    let t = total_on c.args.s.now c.args.at l.k c.args.trees c.loop-k-test.true in
    cap_over (omega (arith, t, l.invariant.0, c.word.ensures, c.if-most-sum.true))

pub loop-k-preserved : goal.loop-k-preserved
loop-k-preserved c =
    let l = c.loop-k in
    let t = total_on c.args.s.now c.args.at l.k c.args.trees c.loop-k-test.true in
    (omega (arith, t, l.invariant.0, c.word.ensures), omega arith)

pub returns : goal.returns
returns c =
    let l = c.loop-k in
    let t = total_none c.args.s.now (c.args.at + 4 * l.k) (c.args.trees - l.k) (omega arith) in
    let e : l.sum ≡ total (words_at c.args.s.now c.args.at c.args.trees) = omega (arith, t, l.invariant.0) in
    e ∙ cap_in (omega (arith, l.invariant.1))
