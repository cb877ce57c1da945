-- `walk::follow`: what is left of the walk, with so many questions more, is the answer. A limit above what the tree can ask makes no
-- difference, so that the walk is one with the smaller of the two as its limit.
use Rattle.walk.specs.Walking.{meet_at}
use Rattle.walk.proofs.Following.{Following}
use Rattle.walk.proofs.follow.Given as goal

abbrev pub invariant-loop-asked : goal.invariant-loop-asked
invariant-loop-asked l = Following (meet_at l.records l.first l.count l.answers) l.limit l.most l.k l.asked
