-- `text_base::has_nine`: two comparisons, the second of a difference that doesn't wrap.
use Rattle.std.proofs.Common.{◌+◌, length, sym, arith, le-ltb}
use Rattle.text_base.proofs.Ahead.{nine_of}
use Rattle.text_base.proofs.has_nine.Goals as goal

pub returns-then-s-at : goal.returns-then-s-at
returns-then-s-at c = sym (le-ltb (c.args.at + 8) (length c.args.s.now) (omega arith))

pub returns : goal.returns
returns c = nine_of c.args.s.now c.args.at
