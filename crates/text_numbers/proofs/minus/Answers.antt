-- `text_numbers::minus` meets its contract: `!k` of the number k before m is -m.
use mathlib.Core.Path.{◌≡◌, refl, ap, ◌∙◌}
use Prim.Native.Nat.{ℕ, zero, suc, ◌-◌, ◌≤◌, ◌^◌}
use native.Mathlib.Omega.{arith}
use lib.IntN.{pos, neg_ℤ}
use mir.Syntax.{w64}
use mir.Val.{to_z}
use mir.ValLaws.{to_z-neg}
use Rattle.text_numbers.proofs.minus.Goals as goal

flipped : (m : ℕ) → m ≤ 2 ^ 63 → (m ≡ 0 → ⊥) → to_z w64 (18446744073709551615 - (m - 1)) ≡ neg_ℤ (pos m)
flipped zero h n = absurd (n refl)
flipped (suc k) h n =
    let e : 18446744073709551615 - (suc k - 1) ≡ 2 ^ 64 - suc k = omega arith in
    ap (to_z w64) e ∙ to_z-neg w64 k h

pub returns-then-m-eq0 : goal.returns-then-m-eq0
returns-then-m-eq0 c = rw c.if-m-eq0.true

pub returns : goal.returns
returns c = flipped c.args.m c.requires c.if-m-eq0.false
