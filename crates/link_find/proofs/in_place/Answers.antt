-- `link_find::in_place`: the key of the id is 2^63 less its number.
use mathlib.Core.Path.{◌≡◌, sym, ap, ◌∙◌}
use Prim.Native.Nat.{ℕ, ◌+◌, ◌-◌, ◌≤◌}
use native.Mathlib.Decide.{ℕ_discrete}
use native.Mathlib.Omega.{arith}
use borrow.Author.Tests.{eq-eqb, ne_eqb}
use lib.Dec.{eqb}
use Rattle.laws.proofs.Signed.{back}
use Rattle.link_order.specs.Keys.{id_key}
use Rattle.link_find.proofs.in_place.Goals as goal

below : (k n : ℕ) → k ≤ 9223372036854775808 → eqb (9223372036854775808 - k) n ≡ eqb (k + n) 9223372036854775808
below k n h = go (ℕ_discrete (9223372036854775808 - k) n)
  where
    go : Dec (9223372036854775808 - k ≡ n) → eqb (9223372036854775808 - k) n ≡ eqb (k + n) 9223372036854775808
    go (yes e) = eq-eqb (9223372036854775808 - k) n e ∙ sym (eq-eqb (k + n) 9223372036854775808 (omega arith))
    go (no e) = ne_eqb (9223372036854775808 - k) n e ∙ sym (ne_eqb (k + n) 9223372036854775808 (λ q. e (omega arith)))

pub returns-then-key-gt9223372036854775808 : goal.returns-then-key-gt9223372036854775808
returns-then-key-gt9223372036854775808 c = let k : c.id_key-key.result ≡ id_key c.args.line.id = c.id_key-key.ensures ∙ ap id_key (back c.args.line.id c.struct_told-1.given.0.1) in sym (ne_eqb (id_key c.args.line.id + c.args.number) 9223372036854775808 (λ q. omega (arith, k, c.if-key-gt9223372036854775808.true)))

pub returns : goal.returns
returns c = let k : c.id_key-key.result ≡ id_key c.args.line.id = c.id_key-key.ensures ∙ ap id_key (back c.args.line.id c.struct_told-1.given.0.1) in ap (λ (x : ℕ). eqb (9223372036854775808 - x) c.args.number) k ∙ below (id_key c.args.line.id) c.args.number (omega (arith, k, c.if-key-gt9223372036854775808.false))
