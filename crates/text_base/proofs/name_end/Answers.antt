-- `text_base::name_end`: the place where the run stops is the same from each place that the loop passes, over the printed bytes ahead too.
use Rattle.std.proofs.Common.{◌≡◌, ℕ, ◌+◌, ◌<◌, true, length, sym, ◌∙◌, arith, ne_eqb, le-leb}
use borrow.Author.Tests.{not-true, not-false}
use Rattle.written.specs.Bytes.{blank, in_name}
use Rattle.laws.specs.Runs.{stop}
use Rattle.laws.proofs.Runs.{stop_on, stop_here, stop_end}
use Rattle.text_base.specs.Ahead.{is_printed}
use Rattle.text_base.proofs.Ahead.{printed_range, past_in, stop_past, eight_in, stop_eight}
use Rattle.text_base.proofs.name_end.Goals.{After-printed_ahead-i}
use Rattle.text_base.proofs.name_end.Goals as goal

takes_printed : (b : ℕ) → is_printed b ≡ true → in_name b ≡ true
unfolding in_name blank
takes_printed b e =
    let r = printed_range b e in
    rw (le-leb b 127 r.1, ne_eqb b 32 (λ q. omega arith), ne_eqb b 10 (λ q. omega arith))

pub overflow_add-i : goal.overflow_add-i
overflow_add-i c = omega (arith, eight_in in_name is_printed takes_printed c.args.s.now c.loop-i.i (sym c.eight_printed.ensures ∙ c.if-eight_printed.true))

pub loop-i-smaller-then-eight_printed : goal.loop-i-smaller-then-eight_printed
loop-i-smaller-then-eight_printed c = omega (arith, eight_in in_name is_printed takes_printed c.args.s.now c.loop-i.i (sym c.eight_printed.ensures ∙ c.if-eight_printed.true))

pub loop-i-preserved-then-eight_printed : goal.loop-i-preserved-then-eight_printed
loop-i-preserved-then-eight_printed c = stop_eight in_name is_printed takes_printed _ _ (sym c.eight_printed.ensures ∙ c.if-eight_printed.true) ∙ c.loop-i.invariant

-- the bytes that are passed leave a byte behind them
inside : (c : After-printed_ahead-i) → c.loop-i.i + c.printed_ahead-i.result < length c.args.s.now
inside c = past_in in_name is_printed takes_printed _ _ _ c.printed_ahead-i.ensures c.loop-i-test.true

-- and the run stops where it did
same_stop : (c : After-printed_ahead-i) → stop in_name c.args.s.now (c.loop-i.i + c.printed_ahead-i.result) ≡ stop in_name c.args.s.now c.args.at
same_stop c = stop_past in_name is_printed takes_printed _ _ _ c.printed_ahead-i.ensures ∙ c.loop-i.invariant

pub overflow_add-i-else-eight_printed : goal.overflow_add-i-else-eight_printed
overflow_add-i-else-eight_printed c = omega (arith, inside c)

pub bounds-s-i : goal.bounds-s-i
bounds-s-i c = inside (goal.at.bounds-s-i c).After-printed_ahead-i

pub returns-then-not-is_name : goal.returns-then-not-is_name
returns-then-not-is_name c = sym (stop_here _ _ _ (inside (goal.at.returns-then-not-is_name c).After-printed_ahead-i) (sym c.is_name.ensures ∙ not-true _ c.if-not-is_name.true-raw)) ∙ same_stop (goal.at.returns-then-not-is_name c).After-printed_ahead-i

pub overflow_add-i-else-eight_printed-2 : goal.overflow_add-i-else-eight_printed-2
overflow_add-i-else-eight_printed-2 c = omega (arith, inside (goal.at.overflow_add-i-else-eight_printed-2 c).After-printed_ahead-i)

pub loop-i-smaller : goal.loop-i-smaller
loop-i-smaller c = omega (arith, inside (goal.at.loop-i-smaller c).After-printed_ahead-i)

pub loop-i-preserved : goal.loop-i-preserved
loop-i-preserved c = sym (stop_on _ _ _ (inside (goal.at.loop-i-preserved c).After-printed_ahead-i) (sym c.is_name.ensures ∙ not-false _ c.if-not-is_name.false-raw)) ∙ same_stop (goal.at.loop-i-preserved c).After-printed_ahead-i

pub returns : goal.returns
returns c = sym (stop_end _ _ _ c.loop-i-test.false) ∙ c.loop-i.invariant
