-- `head_lines::stood` meets its contract.
use Rattle.head_lines.specs.Lines.{stood_at}
use borrow.Author.Tests.{lt-ltb, le-ltb}
use Rattle.head_lines.proofs.stood.Goals as goal

pub returns-then-field-lt10 : goal.returns-then-field-lt10
unfolding stood_at
returns-then-field-lt10 c = simp (lt-ltb _ _ c.if-field-lt10.true)

pub returns-else-field-lt10 : goal.returns-else-field-lt10
unfolding stood_at
returns-else-field-lt10 c = simp (le-ltb _ _ c.if-field-lt10.false)
