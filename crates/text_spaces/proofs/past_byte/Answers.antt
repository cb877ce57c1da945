-- `text_spaces::past_byte`: past the end there is no byte, and so none that is b.
use mathlib.Core.Path.{◌≡◌}
use Prim.Native.Nat.{ℕ, ◌+◌, ◌≤◌, ◌<◌}
use mathlib.Core.List.{List}
use native.Mathlib.Omega.{arith}
use lib.ListN.{length, get_or}
use borrow.Author.Tests.{eq-eqb, ne_eqb}
use Rattle.std.specs.Prelude.{Some, None}
use Rattle.laws.proofs.Runs.{byte_is, byte_out}
use Rattle.text_spaces.specs.Spaces.{past_byte}
use Rattle.text_spaces.proofs.past_byte.Goals as goal

module _ (b : ℕ) (s : List ℕ) (i : ℕ) where
  none : length s ≤ i → b < 256 → None ≡ past_byte b s i
  unfolding past_byte
  none h f = rw (byte_out s i h, ne_eqb 256 b (λ e. omega arith))

  here : i < length s → get_or s i 0 ≡ b → Some (i + 1) ≡ past_byte b s i
  unfolding past_byte
  here h e = rw (byte_is s i h, eq-eqb _ _ e)

  other : i < length s → (get_or s i 0 ≡ b → ⊥) → None ≡ past_byte b s i
  unfolding past_byte
  other h n = rw (byte_is s i h, ne_eqb _ _ n)

pub returns-then-s-at : goal.returns-then-s-at
returns-then-s-at c = none _ _ _ c.if-s-at.true (omega (arith, c.ranges.b))

pub returns-then-s-at-2 : goal.returns-then-s-at-2
returns-then-s-at-2 c = here _ _ _ c.if-s-at.false c.if-s-at-2.true

pub returns-else-s-at-2 : goal.returns-else-s-at-2
returns-else-s-at-2 c = other _ _ _ c.if-s-at.false c.if-s-at-2.false
