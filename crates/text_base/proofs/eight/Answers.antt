-- `text_base::eight`: the bytes at their weights.
use Rattle.std.proofs.Common.{arith}
use Rattle.text_base.proofs.Ahead.{eight_bytes}
use Rattle.text_base.proofs.eight.Goals as goal

pub returns : goal.returns
returns c =
    omega (arith, eight_bytes c.args.s.now c.args.at)
