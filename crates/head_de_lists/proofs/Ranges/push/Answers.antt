-- `head_de_lists::Ranges::push` meets its contract.
use Rattle.head_de_lists.specs.Lists.{ranges_with}
use borrow.Author.Tests.{lt-ltb, le-ltb}
use Rattle.head_de_lists.proofs.Ranges.push.Goals as goal

pub returns-then-n-lt8 : goal.returns-then-n-lt8
unfolding ranges_with
returns-then-n-lt8 c = simp (lt-ltb _ _ c.if-n-lt8.true)

pub returns : goal.returns
unfolding ranges_with
returns c = simp (le-ltb _ _ c.if-n-lt8.false)
