-- `walk_depth::judge`: a record that isn't good, the depth, or a path that goes round.
use native.Mathlib.Omega.{arith}
use lib.ListN.{length}
use borrow.Author.Tests.{not-true, not-false}
use Rattle.walk_depth.proofs.Saying.{zeroed, all_good, judged_bad, judged-found, judged_round}
use Rattle.walk_depth.proofs.judge.Goals as goal

pub reach-requires : goal.reach-requires
reach-requires c = (omega (arith, c.requires.0), c.requires.1)

pub returns-then-not-reach : goal.returns-then-not-reach
returns-then-not-reach c = judged_bad c.reach.ensures (not-true _ c.if-not-reach.true-raw) c.said.ensures

pub climb-requires : goal.climb-requires
climb-requires c = (all_good c.reach.ensures (not-false _ c.if-not-reach.false-raw), omega (arith, c.requires.0, c.work-2-1.given, c.work-1.given), zeroed (length c.reach.new.work) c.zero_work.ensures)

pub returns-in-Some : goal.returns-in-Some
returns-in-Some c = judged-found (all_good c.reach.ensures (not-false _ c.if-not-reach.false-raw)) c.climb.ensures c.in-Some.is c.said-in-Some.ensures

pub returns-in-None : goal.returns-in-None
returns-in-None c = judged_round (all_good c.reach.ensures (not-false _ c.if-not-reach.false-raw)) c.climb.ensures c.in-None.is c.said-in-None.ensures
