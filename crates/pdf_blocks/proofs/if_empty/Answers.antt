-- `pdf_blocks::if_empty` meets its contract.
use borrow.Author.Tests.{eq-eqb, ne_eqb}
use Rattle.pdf_blocks.proofs.if_empty.Goals as goal

pub returns-then-trees-eq0 : goal.returns-then-trees-eq0
returns-then-trees-eq0 c = rw (eq-eqb _ _ c.if-trees-eq0.true)

pub returns-else-trees-eq0 : goal.returns-else-trees-eq0
returns-else-trees-eq0 c = rw (ne_eqb _ _ c.if-trees-eq0.false)
