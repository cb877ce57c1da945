-- `tree_survey::larger_of`: by which is larger.
use borrow.Author.Tests.{lt-ltb, le-ltb}
use Rattle.laws.specs.Totals.{larger}
use Rattle.tree_survey.proofs.larger_of.Goals as goal

pub returns-then-m-n : goal.returns-then-m-n
unfolding larger
returns-then-m-n c = rw (lt-ltb _ _ c.if-m-n.true)

pub returns-else-m-n : goal.returns-else-m-n
unfolding larger
returns-else-m-n c = rw (le-ltb _ _ c.if-m-n.false)
