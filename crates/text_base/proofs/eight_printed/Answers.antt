-- `text_base::eight_printed`: no top bit is set where all eight are printed bytes.
use Rattle.std.proofs.Common.{eqb, sym, ap, ◌∙◌, arith}
use borrow.Author.Tests.{not-true}
use Rattle.text_base.proofs.Ahead.{ahead_none, nine_in, all_printed}
use Rattle.text_base.proofs.eight_printed.Goals as goal

pub returns-then-not-has_nine : goal.returns-then-not-has_nine
returns-then-not-has_nine c = ap (λ n. eqb n 8) (ahead_none _ _ _ (sym c.has_nine.ensures ∙ not-true _ c.if-not-has_nine.true-raw))

pub not_printed-requires : goal.not_printed-requires
not_printed-requires c = nine_in _ c.args.s.now c.args.at c.has_nine.ensures c.if-not-has_nine.false-raw

pub returns : goal.returns
returns c = all_printed _ _ (nine_in _ c.args.s.now c.args.at c.has_nine.ensures c.if-not-has_nine.false-raw) (λ j. omega (arith, c.shared_slice_known-1.given j)) _ c.not_printed.ensures c.not_printed.type_inv
