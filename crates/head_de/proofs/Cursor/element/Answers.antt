-- `head_de::Cursor::element` meets its contract.
use Rattle.head_de.specs.Values.{element_at, element_of}
use mathlib.Core.Path.{sym, ap, ◌∙◌}
use Rattle.head_de.proofs.Cursor.element.Goals as goal

pub returns-then-first : goal.returns-then-first
unfolding element_at
returns-then-first c = c.number-then-first.ensures ∙ rw (sym c.delimiter.ensures ∙ c.in-Missing.is, c.if-first.true)

pub returns-in-Passed : goal.returns-in-Passed
unfolding element_at
returns-in-Passed c = c.number.ensures ∙ ap (element_of _ _ _) (sym c.in-Passed.is ∙ c.delimiter.ensures)

pub returns-in-Closed : goal.returns-in-Closed
unfolding element_at
returns-in-Closed c = ap (element_of _ _ _) (sym c.in-Closed.is ∙ c.delimiter.ensures)

pub returns-else-first : goal.returns-else-first
unfolding element_at
returns-else-first c = rw (sym c.delimiter.ensures ∙ c.in-Missing.is, c.if-first.false)
