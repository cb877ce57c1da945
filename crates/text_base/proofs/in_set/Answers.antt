-- `text_base::in_set`: the bit of the byte, in the first or the second half.
use Rattle.std.proofs.Common.{◌≡◌, ℕ, ◌/◌, ◌^◌, ◌<◌, ◌≤◌, Bool, eqb, ap, ◌∙◌, arith, le-ltb, lt-ltb}
use lib.Bits.{bit_and, and_le_r}
use Rattle.text_base.specs.Classes.{in_set}
use Rattle.text_base.proofs.in_set.Goals.{then-b-lt64, else-b-lt64}
use Rattle.text_base.proofs.in_set.Goals as goal

abbrev bit : ℕ → ℕ → Bool
bit w b = eqb (bit_and (w / 2 ^ bit_and b 63) 1) 1

low_half : (l h b : ℕ) → b < 64 → b ≤ 127 → bit l b ≡ in_set l h b
unfolding in_set
low_half l h b p q = rw (le-ltb 127 b q, lt-ltb b 64 p)

high_half : (l h b : ℕ) → 64 ≤ b → b ≤ 127 → bit h b ≡ in_set l h b
unfolding in_set
high_half l h b p q = rw (le-ltb 127 b q, le-ltb b 64 p)

pub returns-then-b-gt127 : goal.returns-then-b-gt127
unfolding in_set
returns-then-b-gt127 c = rw (lt-ltb 127 c.args.b c.if-b-gt127.true)

pub overflow_cast-result : goal.overflow_cast-result
overflow_cast-result c = omega (arith, and_le_r c.args.b 63)

pub overflow_shr-result : goal.overflow_shr-result
overflow_shr-result c = omega (arith, and_le_r c.args.b 63)

pub returns : goal.returns
returns c =
    let b = c.args.b in
    let l = c.args.low in
    let h = c.args.high in
    elim c.if-b-lt64.branch [
      | then-b-lt64 w ↦ ap (λ v. bit v b) w.bits-is ∙ low_half l h b w.if-b-lt64.true c.if-b-gt127.false
      | else-b-lt64 w ↦ ap (λ v. bit v b) w.bits-is ∙ high_half l h b w.if-b-lt64.false c.if-b-gt127.false
    ]
