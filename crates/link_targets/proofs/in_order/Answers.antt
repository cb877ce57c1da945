-- `link_targets::in_order`: the answer is the same from each line on.
use mathlib.Core.Path.{sym, ap, ◌∙◌}
use native.Mathlib.Omega.{arith}
use Rattle.laws.proofs.Signed.{back}
use Rattle.link_order.specs.Keys.{id_key}
use Rattle.link_targets.proofs.Refs.{order_on, order_off, order_end}
use Rattle.link_targets.proofs.in_order.Goals as goal

pub returns-then-key-gt9223372036854775808 : goal.returns-then-key-gt9223372036854775808
returns-then-key-gt9223372036854775808 c = let k = (c.id_key-key.ensures ∙ ap id_key (back _ c.id_of.type_inv ∙ c.id_of.ensures)) in sym (sym c.loop-line.invariant.1 ∙ order_off _ _ _ c.loop-line-test.true (λ q. omega (arith, k, c.if-key-gt9223372036854775808.true)))

pub returns-then-key-line : goal.returns-then-key-line
returns-then-key-line c = let k = (c.id_key-key.ensures ∙ ap id_key (back _ c.id_of.type_inv ∙ c.id_of.ensures)) in sym (sym c.loop-line.invariant.1 ∙ order_off _ _ _ c.loop-line-test.true (λ q. c.if-key-line.true (omega (arith, k, c.if-key-gt9223372036854775808.false))))

pub loop-line-preserved : goal.loop-line-preserved
loop-line-preserved c = let k = (c.id_key-key.ensures ∙ ap id_key (back _ c.id_of.type_inv ∙ c.id_of.ensures)) in (omega arith, sym (order_on _ _ _ c.loop-line-test.true (omega (arith, k, c.if-key-gt9223372036854775808.false, c.if-key-line.false))) ∙ c.loop-line.invariant.1)

pub returns : goal.returns
returns c = sym (sym c.loop-line.invariant.1 ∙ order_end _ _ _ c.loop-line-test.false)
