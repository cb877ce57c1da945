-- `write_counts::run_of`: the leaves up to i bear the number.
use Rattle.write_counts.proofs.Laws.{running_on, running_off, running_end, run_so}
use mathlib.Core.Path.{◌∙◌}
use Rattle.write_counts.proofs.run_of.Goals as goal

pub returns-then-number-x : goal.returns-then-number-x
returns-then-number-x c = run_so c.args.records.now c.args.first c.args.k c.args.count c.number-x.ensures (running_off _ _ _ _ _ _ c.loop-i.invariant c.loop-i-test.true c.number.ensures c.if-number-x.true)

pub loop-i-preserved : goal.loop-i-preserved
loop-i-preserved c = running_on _ _ _ _ _ _ c.loop-i.invariant c.loop-i-test.true c.number.ensures c.if-number-x.false

pub returns : goal.returns
returns c = run_so c.args.records.now c.args.first c.args.k c.args.count c.number-x.ensures (c.saturating_sub.ensures ∙ running_end _ _ _ _ _ _ c.loop-i.invariant c.loop-i-test.false c.loop-i.auto.i-end)
