-- `pdf_widen::widen` meets its contract: a normal number by one shift, any other by its fields.
use mathlib.Core.Path.{◌≡◌, sym, ◌∙◌}
use Prim.Native.Nat.{ℕ, ◌+◌, ◌*◌, ◌/◌, ◌%◌, ◌≤◌, ◌<◌}
use native.Mathlib.Omega.{arith}
use Rattle.written.specs.Interchange.{bias, join, sign_of, exponent_of, fraction_of}
use Rattle.pdf_widen.specs.Widening.{widen_of}
use Rattle.pdf_widen.proofs.Cases.{wide_normal}
use Rattle.pdf_widen.proofs.widen.Goals as goal

-- exponent and fraction, moved up together
moved_up : (b : ℕ) → 8388608 ≤ b % 2147483648 → b % 2147483648 < 2139095040
    → b / 2147483648 * 9223372036854775808 + b % 2147483648 * 536870912 + 4035225266123964416
    ≡ join 11 52 (b / 8388608 / 256) (b / 8388608 % 256 + 896) (b % 8388608 * 536870912)
moved_up b h k = omega arith

pub returns-then-size-lt2139095040 : goal.returns-then-size-lt2139095040
unfolding widen_of bias
returns-then-size-lt2139095040 c =
    let b = c.args.bits in
    moved_up b c.if-size-ge8388608.true c.if-size-lt2139095040.true
    ∙ sym (wide_normal 8 23 11 52 (sign_of 8 23 b) (exponent_of 8 23 b) (fraction_of 8 23 b) (λ e. omega (arith, e, c.if-size-lt2139095040.true)) (λ e. omega (arith, e, c.if-size-ge8388608.true)))
