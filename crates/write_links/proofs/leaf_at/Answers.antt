-- `write_links::leaf_at`: number by number.
use Prim.Native.Nat.{ℕ}
use Rattle.laws.proofs.Every.{not_first, then_second}
use Rattle.write_links.proofs.Ways.{is, is_not, is_below, not_below}
use Rattle.write_links.specs.Tests.{leaf_at}
use lib.Dec.{eqb}
use mathlib.Core.Path.{ap}
use Rattle.write_links.proofs.leaf_at.Goals as goal

pub returns-then-kind-ne1 : goal.returns-then-kind-ne1
unfolding leaf_at
returns-then-kind-ne1 c = not_first _ (is_not c.kind.ensures c.if-kind-ne1.true)

pub returns-then-number-ge-TOO_LARGE : goal.returns-then-number-ge-TOO_LARGE
unfolding leaf_at
returns-then-number-ge-TOO_LARGE c = then_second (is c.kind.ensures c.if-kind-ne1.false) (not_first _ (not_below c.number.ensures c.if-number-ge-TOO_LARGE.true))

pub returns-then-goes_yes-ne0 : goal.returns-then-goes_yes-ne0
unfolding leaf_at
returns-then-goes_yes-ne0 c = then_second (is c.kind.ensures c.if-kind-ne1.false) (then_second (is_below c.number.ensures c.if-number-ge-TOO_LARGE.false) (not_first _ (is_not c.goes_yes.ensures c.if-goes_yes-ne0.true)))

pub returns : goal.returns
unfolding leaf_at
returns c = then_second (is c.kind.ensures c.if-kind-ne1.false) (then_second (is_below c.number.ensures c.if-number-ge-TOO_LARGE.false) (then_second (is c.goes_yes.ensures c.if-goes_yes-ne0.false) (ap (λ (z : ℕ). eqb z 0) c.goes_no.ensures)))
