-- `write_counts::tally_refs`: references that are left, counted on, are all of them.
use Rattle.write_counts.proofs.Laws.{small_yes, small_no, tallying_on, tallying_end}
use native.Mathlib.Omega.{arith}
use Rattle.write_counts.proofs.tally_refs.Goals as goal

pub add-requires : goal.add-requires
add-requires c = small_yes c.args.records.now c.args.first c.args.lines c.args.base c.args.tally.now c.loop-k.tally c.loop-k.k c.loop-k.invariant c.loop-k-test.true c.requires.0 (omega (arith, c.well_formed))

pub add-requires-in-loop-k : goal.add-requires-in-loop-k
add-requires-in-loop-k c = small_no c.args.records.now c.args.first c.args.lines c.args.base c.args.tally.now c.loop-k.tally c.loop-k.k c.loop-k.invariant c.loop-k-test.true c.goes_yes.ensures c.goes_no.ensures c.add.ensures c.requires.0 (omega (arith, c.well_formed))

pub loop-k-preserved : goal.loop-k-preserved
loop-k-preserved c = tallying_on c.args.records.now c.args.first c.args.lines c.args.base c.args.tally.now c.loop-k.tally c.loop-k.k c.loop-k.invariant c.loop-k-test.true c.goes_yes.ensures c.goes_no.ensures c.add.ensures c.add-in-loop-k.ensures

pub returns : goal.returns
returns c = tallying_end _ _ _ _ _ _ _ c.loop-k.invariant c.loop-k-test.false
