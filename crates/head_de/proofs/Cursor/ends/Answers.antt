-- `head_de::Cursor::ends` meets its contract.
use Rattle.written.specs.Bytes.{one_of}
use Rattle.head_de.specs.Values.{ends_at}
use borrow.Author.Tests.{eq-eqb, ne_eqb}
use mathlib.Core.Path.{sym, ap, ◌∙◌}
use Rattle.head_de.proofs.Cursor.ends.Goals as goal

pub returns-then-b-eq256 : goal.returns-then-b-eq256
unfolding ends_at
returns-then-b-eq256 c = rw (eq-eqb _ _ (sym c.byte_at-b.ensures ∙ c.if-b-eq256.true))

pub returns : goal.returns
unfolding ends_at
returns c = rw (ne_eqb _ _ (λ e. c.if-b-eq256.false (c.byte_at-b.ensures ∙ e))) (c.is_delimiter.ensures ∙ ap (one_of _) c.byte_at-b.ensures)
