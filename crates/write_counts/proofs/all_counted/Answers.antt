-- `write_counts::all_counted`: the windows from `base` on say what all say.
use Rattle.write_counts.proofs.Laws.{windows_none, windows_on, windows_off, windows_end}
use borrow.Author.Tests.{not-true, not-false}
use native.Mathlib.Omega.{arith}
use Rattle.write_counts.proofs.all_counted.Goals as goal

pub loop-base-init : goal.loop-base-init
loop-base-init c = windows_none _ _ _ c.requires.0

pub window_counted-requires : goal.window_counted-requires
window_counted-requires c = (c.window-size.ensures.0, omega (arith, c.window-size.ensures.1, c.loop-base-test.true), c.loop-base.invariant.from, c.requires.1)

pub returns-then-not-window_counted : goal.returns-then-not-window_counted
returns-then-not-window_counted c = windows_off _ _ _ _ _ c.loop-base.invariant c.window-size.ensures.1 c.window_counted.ensures (not-true _ c.if-not-window_counted.true-raw)

pub overflow_add-base : goal.overflow_add-base
overflow_add-base c = omega (arith, c.window-size.ensures.1, c.loop-base-test.true, c.ranges)

pub loop-base-smaller : goal.loop-base-smaller
loop-base-smaller c = omega (arith, c.window-size.ensures.1, c.window-size.ensures.2 (omega (arith, c.loop-base-test.true)), c.loop-base-test.true)

pub loop-base-preserved : goal.loop-base-preserved
loop-base-preserved c = windows_on _ _ _ _ _ c.loop-base.invariant c.window-size.ensures.1 c.window_counted.ensures (not-false _ c.if-not-window_counted.false-raw)

pub returns : goal.returns
returns c = windows_end _ _ _ _ c.loop-base.invariant c.loop-base-test.false
