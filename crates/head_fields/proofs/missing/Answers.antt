-- `head_fields::missing` meets its contract.
use Rattle.head_fields.proofs.Fields.{missing_on, missing_here}
use Rattle.head_fields.specs.Fields.{any_missing}
use borrow.Author.Tests.{not-true, not-false}
use native.Mathlib.Omega.{arith}
use mathlib.Core.Path.{◌≡◌, refl, sym, ◌∙◌}
use Rattle.head_fields.proofs.missing.Goals as goal

pub loop-k-init : goal.loop-k-init
loop-k-init c = (refl, omega arith)

pub returns-then-not-seen-k : goal.returns-then-not-seen-k
returns-then-not-seen-k c = sym (c.loop-k.invariant.0 ∙ missing_here _ _ c.loop-k-test.true (not-true _ c.if-not-seen-k.true-raw))

pub loop-k-preserved : goal.loop-k-preserved
loop-k-preserved c = (c.loop-k.invariant.0 ∙ missing_on _ _ c.loop-k-test.true (not-false _ c.if-not-seen-k.false-raw), omega arith)

pub returns : goal.returns
unfolding any_missing
returns c = let e : c.loop-k.k ≡ 0 = omega arith in sym (c.loop-k.invariant.0 ∙ rw e)
