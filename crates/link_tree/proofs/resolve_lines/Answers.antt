-- `link_tree::resolve_lines`: what is left, stored, gives the rows with all of them.
use Rattle.link_tree.proofs.Laws.{resolve_more, resolve_fails, resolve_done}
use Rattle.link_tree.proofs.resolve_lines.Goals as goal

pub returns-in-Err : goal.returns-in-Err
returns-in-Err c = resolve_fails _ _ _ _ _ _ _ c.loop-line.invariant c.loop-line-test.true c.resolve_line.ensures c.in-Err.is

pub loop-line-preserved : goal.loop-line-preserved
loop-line-preserved c = resolve_more _ _ _ _ _ _ _ c.loop-line.invariant c.loop-line-test.true c.resolve_line.ensures _ _ c.in-Ok.is _ c.put2.ensures

pub returns : goal.returns
returns c = resolve_done _ _ _ _ _ _ _ c.loop-line.invariant c.loop-line-test.false
