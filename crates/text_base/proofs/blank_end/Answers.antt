-- `text_base::blank_end`: the place where the run stops is the same from each place that the loop passes, over the spaces ahead too.
use Rattle.std.proofs.Common.{◌≡◌, ℕ, ◌+◌, ◌<◌, true, length, sym, ◌∙◌, arith}
use borrow.Author.Tests.{not-true, not-false}
use Rattle.written.specs.Bytes.{blank}
use Rattle.laws.specs.Runs.{stop}
use Rattle.laws.proofs.Runs.{stop_on, stop_here, stop_end}
use Rattle.text_base.specs.Ahead.{is_space}
use Rattle.text_base.proofs.Ahead.{past_in, stop_past, eight_in, stop_eight}
use Rattle.text_base.proofs.blank_end.Goals.{After-spaces_ahead-i}
use Rattle.text_base.proofs.blank_end.Goals as goal

takes_spaces : (b : ℕ) → is_space b ≡ true → blank b ≡ true
unfolding blank
takes_spaces b e = rw e

pub overflow_add-i : goal.overflow_add-i
overflow_add-i c = omega (arith, eight_in blank is_space takes_spaces c.args.s.now c.loop-i.i (sym c.eight_spaces.ensures ∙ c.if-eight_spaces.true))

pub loop-i-smaller-then-eight_spaces : goal.loop-i-smaller-then-eight_spaces
loop-i-smaller-then-eight_spaces c = omega (arith, eight_in blank is_space takes_spaces c.args.s.now c.loop-i.i (sym c.eight_spaces.ensures ∙ c.if-eight_spaces.true))

pub loop-i-preserved-then-eight_spaces : goal.loop-i-preserved-then-eight_spaces
loop-i-preserved-then-eight_spaces c = stop_eight blank is_space takes_spaces _ _ (sym c.eight_spaces.ensures ∙ c.if-eight_spaces.true) ∙ c.loop-i.invariant

-- the spaces that are passed leave a byte behind them
inside : (c : After-spaces_ahead-i) → c.loop-i.i + c.spaces_ahead-i.result < length c.args.s.now
inside c = past_in blank is_space takes_spaces _ _ _ c.spaces_ahead-i.ensures c.loop-i-test.true

-- and the run stops where it did
same_stop : (c : After-spaces_ahead-i) → stop blank c.args.s.now (c.loop-i.i + c.spaces_ahead-i.result) ≡ stop blank c.args.s.now c.args.at
same_stop c = stop_past blank is_space takes_spaces _ _ _ c.spaces_ahead-i.ensures ∙ c.loop-i.invariant

pub overflow_add-i-else-eight_spaces : goal.overflow_add-i-else-eight_spaces
overflow_add-i-else-eight_spaces c = omega (arith, inside c)

pub bounds-s-i : goal.bounds-s-i
bounds-s-i c = inside (goal.at.bounds-s-i c).After-spaces_ahead-i

pub returns-then-not-is_blank : goal.returns-then-not-is_blank
returns-then-not-is_blank c = sym (stop_here _ _ _ (inside (goal.at.returns-then-not-is_blank c).After-spaces_ahead-i) (sym c.is_blank.ensures ∙ not-true _ c.if-not-is_blank.true-raw)) ∙ same_stop (goal.at.returns-then-not-is_blank c).After-spaces_ahead-i

pub overflow_add-i-else-eight_spaces-2 : goal.overflow_add-i-else-eight_spaces-2
overflow_add-i-else-eight_spaces-2 c = omega (arith, inside (goal.at.overflow_add-i-else-eight_spaces-2 c).After-spaces_ahead-i)

pub loop-i-smaller : goal.loop-i-smaller
loop-i-smaller c = omega (arith, inside (goal.at.loop-i-smaller c).After-spaces_ahead-i)

pub loop-i-preserved : goal.loop-i-preserved
loop-i-preserved c = sym (stop_on _ _ _ (inside (goal.at.loop-i-preserved c).After-spaces_ahead-i) (sym c.is_blank.ensures ∙ not-false _ c.if-not-is_blank.false-raw)) ∙ same_stop (goal.at.loop-i-preserved c).After-spaces_ahead-i

pub returns : goal.returns
returns c = sym (stop_end _ _ _ c.loop-i-test.false) ∙ c.loop-i.invariant
