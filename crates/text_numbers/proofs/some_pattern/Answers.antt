-- `text_numbers::some_pattern` meets its contract.
use borrow.Author.Tests.{lt-ltb, le-ltb}
use Rattle.text_numbers.specs.Answers.{pattern_of}
use Rattle.text_numbers.proofs.some_pattern.Goals as goal

pub returns-then-start-end : goal.returns-then-start-end
unfolding pattern_of
returns-then-start-end c = rw (lt-ltb _ _ c.if-start-end.true)

pub returns-else-start-end : goal.returns-else-start-end
unfolding pattern_of
returns-else-start-end c = rw (le-ltb _ _ c.if-start-end.false)
