-- `head_de::Cursor::flag` meets its contract.
use Rattle.laws.proofs.Runs.{read_in}
use Rattle.head_de.specs.Values.{flag_at}
use borrow.Author.Tests.{eq-eqb, ne_eqb}
use native.Mathlib.Omega.{arith}
use mathlib.Core.Path.{sym, ◌∙◌}
use Rattle.head_de.proofs.Cursor.flag.Goals as goal

pub returns-then-b-eq256 : goal.returns-then-b-eq256
unfolding flag_at
returns-then-b-eq256 c = rw (eq-eqb _ _ (sym c.byte_at-b.ensures ∙ c.if-b-eq256.true))

pub overflow_add-result : goal.overflow_add-result
overflow_add-result c = omega (arith, read_in _ _ c.byte_at-b.ensures c.if-b-eq48.true (omega arith))

pub returns-then-b-eq48 : goal.returns-then-b-eq48
unfolding flag_at
returns-then-b-eq48 c = rw (sym c.byte_at-b.ensures ∙ c.if-b-eq48.true)

pub overflow_add-result-then-b-eq49 : goal.overflow_add-result-then-b-eq49
overflow_add-result-then-b-eq49 c = omega (arith, read_in _ _ c.byte_at-b.ensures c.if-b-eq49.true (omega arith))

pub returns-then-b-eq49 : goal.returns-then-b-eq49
unfolding flag_at
returns-then-b-eq49 c = rw (sym c.byte_at-b.ensures ∙ c.if-b-eq49.true)

pub returns : goal.returns
unfolding flag_at
returns c = rw (sym c.byte_at-b.ensures, ne_eqb _ _ c.if-b-eq256.false, ne_eqb _ _ c.if-b-eq48.false, ne_eqb _ _ c.if-b-eq49.false)
