-- `head_de::Cursor::string` meets its contract.
use Rattle.laws.proofs.Runs.{read_in, stop_from}
use Rattle.head_de.specs.Values.{text_at}
use borrow.Author.Tests.{ne_eqb, lt-ltb, le-ltb}
use native.Mathlib.Omega.{arith}
use mathlib.Core.Path.{sym, ◌∙◌}
use Rattle.head_de.proofs.Cursor.string.Goals as goal

pub overflow_add-start : goal.overflow_add-start
overflow_add-start c = omega (arith, read_in _ _ c.byte_at.ensures c.if-byte_at-eq34.true (omega arith))

pub overflow_sub-value : goal.overflow_sub-value
overflow_sub-value c = rw c.until-closing.ensures (stop_from _ _ _)

pub returns-then-end-s : goal.returns-then-end-s
unfolding text_at
returns-then-end-s c = rw (sym c.byte_at.ensures ∙ c.if-byte_at-eq34.true, c.until-closing.ensures) (simp (lt-ltb _ _ (rw c.until-closing.ensures at c.if-end-s.true)))

pub returns-then-byte_at-eq34 : goal.returns-then-byte_at-eq34
unfolding text_at
returns-then-byte_at-eq34 c = rw (sym c.byte_at.ensures ∙ c.if-byte_at-eq34.true) (simp (le-ltb _ _ (rw c.until-closing.ensures at c.if-end-s.false)))

pub overflow_sub-value-2 : goal.overflow_sub-value-2
overflow_sub-value-2 c = rw c.until-next.ensures (stop_from _ _ _)

pub returns : goal.returns
unfolding text_at
returns c = rw (c.until-next.ensures, ne_eqb _ _ (λ e. c.if-byte_at-eq34.false (c.byte_at.ensures ∙ e)))
