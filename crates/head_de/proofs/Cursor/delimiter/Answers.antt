-- `head_de::Cursor::delimiter` meets its contract.
use mathlib.Core.List.{List}
use Prim.Native.Nat.{ℕ, ◌<◌}
use Rattle.written.specs.Bytes.{byte_at}
use lib.ListN.{length}
use native.Mathlib.Decide.{dec_lt}
use Rattle.laws.proofs.Runs.{byte_out}
use Rattle.head_de.specs.Values.{delimiter_at}
use borrow.Author.Tests.{eq-eqb, ne_eqb}
use native.Mathlib.Omega.{arith}
use mathlib.Core.Path.{◌≡◌, sym, ◌∙◌}
use Rattle.head_de.proofs.Cursor.delimiter.Goals as goal

-- a byte that is not the end's 256 stands inside
inside : (s : List ℕ) (i : ℕ) → (byte_at s i ≡ 256 → ⊥) → i < length s
inside s i e = elim (dec_lt i (length s)) [ yes l ↦ l | no n ↦ absurd (e (byte_out s i (omega arith))) ]

pub returns-then-b-eq256 : goal.returns-then-b-eq256
unfolding delimiter_at
returns-then-b-eq256 c = rw (eq-eqb _ _ (sym c.byte_at-b.ensures ∙ c.if-b-eq256.true))

pub overflow_add-result : goal.overflow_add-result
overflow_add-result c = omega (arith, inside _ _ (λ e. c.if-b-eq256.false (c.byte_at-b.ensures ∙ e)))

pub returns-then-b-current : goal.returns-then-b-current
unfolding delimiter_at
returns-then-b-current c = rw (sym c.byte_at-b.ensures, ne_eqb _ _ c.if-b-eq256.false, eq-eqb _ _ c.if-b-current.true)

pub returns-then-is_delimiter : goal.returns-then-is_delimiter
unfolding delimiter_at
returns-then-is_delimiter c = rw (sym c.byte_at-b.ensures, ne_eqb _ _ c.if-b-eq256.false, ne_eqb _ _ c.if-b-current.false, sym c.is_delimiter.ensures ∙ c.if-is_delimiter.true)

pub returns : goal.returns
unfolding delimiter_at
returns c = rw (sym c.byte_at-b.ensures, ne_eqb _ _ c.if-b-eq256.false, ne_eqb _ _ c.if-b-current.false, sym c.is_delimiter.ensures ∙ c.if-is_delimiter.false)
