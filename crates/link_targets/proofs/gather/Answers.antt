-- `link_targets::gather`: what is left, stored from `end` on, gives the rows with all of them.
use native.Mathlib.Omega.{arith}
use Rattle.link_targets.proofs.Refs.{gather_room, gather_more, gather_done}
use Rattle.link_targets.proofs.gather.Goals as goal

pub push_line-end-requires : goal.push_line-end-requires
push_line-end-requires c = let l = c.loop-line in (omega (arith, l.invariant.within), gather_room _ _ _ _ l.rows _ _ l.invariant c.loop-line-test.true c.requires.1)

pub loop-line-preserved : goal.loop-line-preserved
loop-line-preserved c = gather_more _ _ _ _ _ _ _ c.loop-line.invariant c.loop-line-test.true _ _ c.push_line-end.ensures

pub returns : goal.returns
returns c = gather_done _ _ _ _ _ _ _ c.loop-line.invariant c.loop-line-test.false
