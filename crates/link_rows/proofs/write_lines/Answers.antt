-- `link_rows::write_lines`: the lines before k stand as rows, what stands behind them is as before.
use Rattle.link_rows.proofs.Laws.{write_more, write_done}
use Rattle.link_rows.proofs.write_lines.Goals as goal

pub loop-k-preserved : goal.loop-k-preserved
loop-k-preserved c = write_more _ _ _ _ _ c.loop-k.invariant c.loop-k-test.true _ c.question_of.ensures _ c.put4.ensures

pub returns : goal.returns
returns c = write_done _ _ _ _ _ c.loop-k.invariant c.loop-k-test.false
