-- `head_sections::is_break` meets its contract.
use Prim.Native.Nat.{ℕ}
use lib.Dec.{eqb}
use Rattle.laws.proofs.Runs.{read_in}
use Rattle.head_sections.specs.Split.{break_here}
use borrow.Author.Tests.{ne_eqb}
use native.Mathlib.Omega.{arith}
use mathlib.Core.Path.{sym, ap, ◌∙◌}
use Rattle.head_sections.proofs.is_break.Goals as goal

pub returns-then-byte_at-ne10 : goal.returns-then-byte_at-ne10
unfolding break_here
returns-then-byte_at-ne10 c = rw (ne_eqb _ _ (λ e. c.if-byte_at-ne10.true (c.byte_at.ensures ∙ e)))

pub overflow_add-at : goal.overflow_add-at
overflow_add-at c = omega (arith, read_in _ _ c.byte_at.ensures c.if-byte_at-ne10.false (omega arith))

pub returns : goal.returns
unfolding break_here
returns c = rw (sym c.byte_at.ensures ∙ c.if-byte_at-ne10.false) (ap (λ (b : ℕ). eqb b 91) c.byte_at-2.ensures)
