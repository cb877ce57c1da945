-- `link_targets::number_lines`: what is left to number, stored, gives the rows with all of them.
use Rattle.link_targets.proofs.Refs.{number_more, number_done}
use Rattle.link_targets.proofs.number_lines.Goals as goal

pub loop-line-preserved : goal.loop-line-preserved
loop-line-preserved c = number_more _ _ _ _ c.loop-line.invariant c.loop-line-test.true

pub returns : goal.returns
returns c = number_done _ _ _ _ c.loop-line.invariant c.loop-line-test.false
