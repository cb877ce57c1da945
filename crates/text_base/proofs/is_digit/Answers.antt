-- `text_base::is_digit` meets its contract.
use Rattle.std.proofs.Common.{le-leb}
use borrow.Author.Tests.{lt-leb}
use Rattle.written.specs.Bytes.{digit}
use Rattle.text_base.proofs.is_digit.Goals as goal

pub returns-then-b-ge48 : goal.returns-then-b-ge48
unfolding digit
returns-then-b-ge48 c = simp (le-leb _ _ c.if-b-ge48.true)

pub returns-else-b-ge48 : goal.returns-else-b-ge48
unfolding digit
returns-else-b-ge48 c = simp (lt-leb _ _ c.if-b-ge48.false)
