-- `text_base::printed_ahead`: the zeros below the lowest top bit count the printed bytes, by eight for each.
use Rattle.std.proofs.Common.{sym, ◌∙◌, arith}
use lib.Count.{trailing_le}
use borrow.Author.Tests.{not-true}
use Rattle.text_base.proofs.Ahead.{ahead_none, nine_in, ahead-unprinted}
use Rattle.text_base.proofs.printed_ahead.Goals as goal

pub returns-then-not-has_nine : goal.returns-then-not-has_nine
returns-then-not-has_nine c = ahead_none _ _ _ (sym c.has_nine.ensures ∙ not-true _ c.if-not-has_nine.true-raw)

pub not_printed-requires : goal.not_printed-requires
not_printed-requires c = nine_in _ c.args.s.now c.args.at c.has_nine.ensures c.if-not-has_nine.false-raw

pub overflow_cast-result : goal.overflow_cast-result
overflow_cast-result c = omega (arith, trailing_le 64 c.not_printed.result)

pub returns : goal.returns
returns c = ahead-unprinted _ _ (nine_in _ c.args.s.now c.args.at c.has_nine.ensures c.if-not-has_nine.false-raw) (λ j. omega (arith, c.shared_slice_known-1.given j)) _ c.not_printed.ensures
