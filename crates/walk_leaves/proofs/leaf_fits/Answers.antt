-- `walk_leaves::leaf_fits` is its definition.
use borrow.Author.Tests.{le-leb, lt-leb}
use Rattle.walk_leaves.proofs.leaf_fits.Goals as goal

pub returns-then-number-ge1 : goal.returns-then-number-ge1
returns-then-number-ge1 c = simp (le-leb _ _ c.if-number-ge1.true)

pub returns-else-number-ge1 : goal.returns-else-number-ge1
returns-else-number-ge1 c = simp (lt-leb _ _ c.if-number-ge1.false)
