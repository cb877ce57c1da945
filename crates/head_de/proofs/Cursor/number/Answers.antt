-- `head_de::Cursor::number` meets its contract.
use Rattle.head_de.specs.Values.{number_at, number_of}
use borrow.Author.Tests.{eq-eqb, ne_eqb}
use mathlib.Core.Path.{sym, ap, ◌∙◌}
use Rattle.std.specs.Prelude.{Err}
use Rattle.head_de.proofs.Cursor.number.Goals as goal

pub returns-then-byte_at-eq256 : goal.returns-then-byte_at-eq256
unfolding number_at
returns-then-byte_at-eq256 c = rw (sym c.parse_unsigned.ensures ∙ c.in-Err-NoDigit.is ∙ ap Err c.in-Err-NoDigit.field-0-is, eq-eqb _ _ (sym c.byte_at.ensures ∙ c.if-byte_at-eq256.true))

pub returns-in-Ok : goal.returns-in-Ok
unfolding number_at
returns-in-Ok c = ap (number_of _ _) (sym c.in-Ok.is ∙ c.parse_unsigned.ensures)

pub returns-in-Err-TooLarge : goal.returns-in-Err-TooLarge
unfolding number_at
returns-in-Err-TooLarge c = ap (number_of _ _) (sym (c.in-Err-TooLarge.is ∙ ap Err c.in-Err-TooLarge.field-0-is) ∙ c.parse_unsigned.ensures)

pub returns-else-byte_at-eq256 : goal.returns-else-byte_at-eq256
unfolding number_at
returns-else-byte_at-eq256 c = rw (sym c.parse_unsigned.ensures ∙ c.in-Err-NoDigit.is ∙ ap Err c.in-Err-NoDigit.field-0-is, ne_eqb _ _ (λ e. c.if-byte_at-eq256.false (c.byte_at.ensures ∙ e)))
