-- `load_choose::model` meets its contract.
use Prim.Native.Nat.{◌+◌, ◌*◌, ◌<◌}
use mir.Val.{bool_byte}
use Rattle.head_words.specs.Words.{range_at}
use Rattle.load_choose.specs.Chosen.{bit}
use Rattle.load_choose.proofs.Widths.{bit_byte, bit_small, model_over, model_within}
use native.Mathlib.Omega.{arith}
use mathlib.Core.Path.{◌≡◌}
use Rattle.load_choose.proofs.model.Goals as goal

pub overflow_add-width : goal.overflow_add-width
overflow_add-width c = omega (arith, bit_byte c.args.msd, bit_small c.args.msd)

pub returns-then-width-gt-WIDTH_LIMIT : goal.returns-then-width-gt-WIDTH_LIMIT
returns-then-width-gt-WIDTH_LIMIT c =
    let x = c.args in
    let h : 4096 < 2 * (x.a * x.b) + bit x.msd = omega (arith, bit_byte x.msd) in
    model_over (range_at x.words.now x.tree) (range_at x.words.now x.pdf) h

pub returns : goal.returns
returns c =
    let x = c.args in
    let e : 2 * c.product.result + bool_byte x.msd ≡ 2 * (x.a * x.b) + bit x.msd = omega (arith, bit_byte x.msd) in
    model_within (range_at x.words.now x.tree) (range_at x.words.now x.pdf) e c.if-width-gt-WIDTH_LIMIT.false
