-- `text_base::eight_spaces`: the eight bytes make one number where all are spaces, and no other.
use Rattle.std.proofs.Common.{eqb, sym, ap, ◌∙◌, arith}
use borrow.Author.Tests.{not-true}
use Rattle.text_base.proofs.Ahead.{ahead_none, nine_in, all_spaces}
use Rattle.text_base.proofs.eight_spaces.Goals as goal

pub returns-then-not-has_nine : goal.returns-then-not-has_nine
returns-then-not-has_nine c = ap (λ n. eqb n 8) (ahead_none _ _ _ (sym c.has_nine.ensures ∙ not-true _ c.if-not-has_nine.true-raw))

pub eight-requires : goal.eight-requires
eight-requires c = omega (arith, nine_in _ c.args.s.now c.args.at c.has_nine.ensures c.if-not-has_nine.false-raw)

pub returns : goal.returns
returns c = all_spaces _ _ (nine_in _ c.args.s.now c.args.at c.has_nine.ensures c.if-not-has_nine.false-raw) (λ j. omega (arith, c.shared_slice_known-1.given j)) _ c.eight.ensures c.eight.type_inv
