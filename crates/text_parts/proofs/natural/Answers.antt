-- `text_parts::natural`: by cases on the sign.
use mathlib.Core.Path.{sym, ap, ◌∙◌}
use native.Mathlib.Omega.{arith}
use lib.IntN.{nat_abs}
use Rattle.laws.proofs.Signed.{back, negative, not_negative}
use Rattle.text_parts.specs.Parts.{nat_of}
use Rattle.text_parts.proofs.natural.Goals as goal

pub returns-then-v-lt0 : goal.returns-then-v-lt0
returns-then-v-lt0 c = let n = negative c.args.v c.ranges.v.sfits c.if-v-lt0.true in ap nat_of (sym n.1)

pub overflow_cast-result : goal.overflow_cast-result
overflow_cast-result c =
    let n = not_negative c.args.v c.ranges.v.sfits c.if-v-lt0.false in
    rw (back c.args.v c.ranges.v.sfits ∙ n.1) (tt, record { fits = omega (arith, n.2) })

pub returns : goal.returns
returns c =
    let n = not_negative c.args.v c.ranges.v.sfits c.if-v-lt0.false in
    ap nat_abs (back c.args.v c.ranges.v.sfits ∙ n.1) ∙ ap nat_of (sym n.1)
