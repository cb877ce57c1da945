-- `link_find::line_of`: where ids are in order the id says the line, else the last that bears it is found.
use mathlib.Core.Path.{sym, ◌∙◌}
use native.Mathlib.Omega.{arith}
use Rattle.link_find.proofs.Finding.{order_above, order_past, order_at}
use Rattle.link_find.proofs.line_of.Goals as goal

pub returns-then-key-gt9223372036854775808 : goal.returns-then-key-gt9223372036854775808
returns-then-key-gt9223372036854775808 c = order_above _ _ (sym c.requires.order ∙ c.if-in_order.true) c.if-key-gt9223372036854775808.true

pub returns-then-line-n : goal.returns-then-line-n
returns-then-line-n c = order_at _ _ _ c.requires.many (sym c.requires.order ∙ c.if-in_order.true) (omega (arith, c.if-key-gt9223372036854775808.false)) c.if-line-n.true

pub returns-then-in_order : goal.returns-then-in_order
returns-then-in_order c = order_past _ _ _ c.requires.many (sym c.requires.order ∙ c.if-in_order.true) (omega (arith, c.if-key-gt9223372036854775808.false)) (λ h. omega (arith, h, c.if-line-n.false))

pub returns : goal.returns
returns c = c.last_line.ensures
