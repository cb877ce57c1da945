-- `head_de_lists::Spans::push` meets its contract.
use Rattle.head_de_lists.specs.Lists.{spans_with}
use borrow.Author.Tests.{lt-ltb, le-ltb}
use Rattle.head_de_lists.proofs.Spans.push.Goals as goal

pub returns-then-n-lt32 : goal.returns-then-n-lt32
unfolding spans_with
returns-then-n-lt32 c = simp (lt-ltb _ _ c.if-n-lt32.true)

pub returns : goal.returns
unfolding spans_with
returns c = simp (le-ltb _ _ c.if-n-lt32.false)
