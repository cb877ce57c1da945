-- `write_figures::figures_len`: the digits that are left, counted on, are all of them.
use Rattle.write_figures.proofs.Digits.{counting_none, counting_more, counting_done}
use native.Mathlib.Omega.{arith}
use Rattle.write_figures.proofs.figures_len.Goals as goal

pub loop-m-init : goal.loop-m-init
loop-m-init c = counting_none _ (omega arith)

pub overflow_add-k : goal.overflow_add-k
overflow_add-k c = omega (arith, c.loop-m.invariant.count)

pub loop-m-smaller : goal.loop-m-smaller
loop-m-smaller c = omega arith

pub loop-m-preserved : goal.loop-m-preserved
loop-m-preserved c = counting_more _ _ _ c.loop-m.invariant c.loop-m-test.true

pub returns : goal.returns
returns c = counting_done _ _ _ c.loop-m.invariant (omega arith)
