-- `trail_plan::tree_read`: a state below 0 is 18.

use Rattle.trail_plan.proofs.tree_read.Goals as goal

pub returns-then-negative : goal.returns-then-negative
returns-then-negative c = rw c.if-negative.true

pub returns : goal.returns
returns c = rw c.if-negative.false
