-- `text_spaces::some_name`: each way out is an arm of `name_of`.
use borrow.Author.Tests.{lt-ltb, le-ltb}
use Rattle.text_spaces.specs.Spaces.{name_of}
use Rattle.text_spaces.proofs.some_name.Goals as goal

pub returns-then-end-next : goal.returns-then-end-next
unfolding name_of
returns-then-end-next c = rw (lt-ltb _ _ c.if-at-start.true, lt-ltb _ _ c.if-start-end.true, lt-ltb _ _ c.if-end-next.true)

pub returns-else-end-next : goal.returns-else-end-next
unfolding name_of
returns-else-end-next c = rw (lt-ltb _ _ c.if-at-start.true, lt-ltb _ _ c.if-start-end.true, le-ltb _ _ c.if-end-next.false)

pub returns-else-start-end : goal.returns-else-start-end
unfolding name_of
returns-else-start-end c = rw (lt-ltb _ _ c.if-at-start.true, le-ltb _ _ c.if-start-end.false)

pub returns-else-at-start : goal.returns-else-at-start
unfolding name_of
returns-else-at-start c = rw (le-ltb _ _ c.if-at-start.false)
