-- `link_rows::question_of` meets its contract.
use mathlib.Core.Path.{ap, ◌∙◌}
use Prim.Native.Nat.{◌+◌, ◌*◌}
use native.Mathlib.Omega.{arith}
use lib.IntN.{pos}
use lib.ListN.{get_or}
use Rattle.laws.proofs.Signed.{back}
use Rattle.text_parts.specs.Parts.{nat_of}
use Rattle.link_rows.proofs.question_of.Goals as goal

pub returns-then-row-eq0 : goal.returns-then-row-eq0
returns-then-row-eq0 c =
    let a = c.args in
    omega (arith, c.natural-row.ensures ∙ ap nat_of (back (get_or a.work.now (6 * a.line + 5) (pos 0)) c.q-1.given), c.if-row-eq0.true)

pub returns-else-row-eq0 : goal.returns-else-row-eq0
returns-else-row-eq0 c =
    let a = c.args in
    omega (arith, c.natural-row.ensures ∙ ap nat_of (back (get_or a.work.now (6 * a.line + 5) (pos 0)) c.q-1.given))
