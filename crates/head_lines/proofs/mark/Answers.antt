-- `head_lines::mark` meets its contract.
use Rattle.head_lines.specs.Lines.{marked}
use borrow.Author.Tests.{lt-ltb, le-ltb}
use Rattle.head_lines.proofs.mark.Goals as goal

pub returns-then-field-n : goal.returns-then-field-n
unfolding marked
returns-then-field-n c = simp (lt-ltb _ _ c.if-field-n.true)

pub returns-else-field-n : goal.returns-else-field-n
unfolding marked
returns-else-field-n c = simp (le-ltb _ _ c.if-field-n.false)
