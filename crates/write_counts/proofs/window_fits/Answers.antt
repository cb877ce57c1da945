-- `write_counts::window_fits`: each count, by what is due.
use Prim.Native.Nat.{◌+◌}
use Rattle.write_counts.proofs.Laws.{counted_so, inside_on, inside_off, inside_end}
use borrow.Author.Tests.{eq-eqb, ne_eqb}
use Rattle.write_counts.proofs.window_fits.Goals as goal

pub returns-then-tally-at : goal.returns-then-tally-at
returns-then-tally-at c = inside_off _ _ _ _ c.loop-j.invariant c.loop-j-test.true (counted_so c.args.records.now c.args.first c.args.count c.args.lines (c.args.base + c.loop-j.j) (c.requires.3 c.loop-j.j c.loop-j-test.true) c.due.ensures (ne_eqb _ _ c.if-tally-at.true))

pub loop-j-preserved : goal.loop-j-preserved
loop-j-preserved c = inside_on _ _ _ _ c.loop-j.invariant c.loop-j-test.true (counted_so c.args.records.now c.args.first c.args.count c.args.lines (c.args.base + c.loop-j.j) (c.requires.3 c.loop-j.j c.loop-j-test.true) c.due.ensures (eq-eqb _ _ c.if-tally-at.false))

pub returns : goal.returns
returns c = inside_end _ _ _ _ c.loop-j.invariant c.loop-j-test.false
