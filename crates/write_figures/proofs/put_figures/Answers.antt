-- `write_figures::put_figures`: the digits that are left, stored, give the buffer with all of them.
use Prim.Native.Nat.{ℕ, ◌+◌, min}
use Rattle.write_figures.proofs.Digits.{storing_none, storing_more, storing_done, put_out}
use mathlib.Core.Path.{ap, ◌∙◌}
use native.Mathlib.Omega.{arith}
use Rattle.write_figures.proofs.put_figures.Goals as goal

pub returns-then-b-at : goal.returns-then-b-at
returns-then-b-at c = put_out _ _ _ c.if-b-at.true (omega (arith, c.well_formed)) (c.past.ensures ∙ ap (λ (l : ℕ). min (c.args.at + l) 18446744073709551615) c.figures_len-len.ensures)

pub loop-m-init : goal.loop-m-init
loop-m-init c = storing_none _ _ _ _ c.figures_len-len.ensures (omega arith)

pub overflow_sub-k : goal.overflow_sub-k
overflow_sub-k c = omega (arith, c.loop-m.invariant.some)

pub overflow_add-at : goal.overflow_add-at
overflow_add-at c = omega (arith, c.loop-m.invariant.few, c.if-b-at.false, c.well_formed)

pub loop-m-smaller : goal.loop-m-smaller
loop-m-smaller c = omega arith

pub loop-m-preserved : goal.loop-m-preserved
loop-m-preserved c = storing_more _ _ _ _ _ _ c.loop-m.invariant c.loop-m-test.true c.put1.ensures

pub shape_of-b : goal.shape_of-b
shape_of-b c = c.put1-2.auto.b ∙ c.loop-m.invariant.long

pub returns : goal.returns
returns c = storing_done _ _ _ _ _ _ c.loop-m.invariant (omega arith) c.put1-2.ensures (c.past-2.ensures ∙ ap (λ (l : ℕ). min (c.args.at + l) 18446744073709551615) c.figures_len-len.ensures)
