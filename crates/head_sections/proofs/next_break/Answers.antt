-- `head_sections::next_break` meets its contract. The place is the same from each place that the loop passes.
use Rattle.head_sections.proofs.Breaks.{break_here_lem, break_on, break_end}
use mathlib.Core.Path.{refl, sym, ◌∙◌}
use Rattle.head_sections.proofs.next_break.Goals as goal

pub loop-i-init : goal.loop-i-init
loop-i-init c = refl

pub returns-then-is_break : goal.returns-then-is_break
returns-then-is_break c = sym (c.loop-i.invariant ∙ break_here_lem _ _ c.loop-i-test.true (sym c.is_break.ensures ∙ c.if-is_break.true))

pub loop-i-preserved : goal.loop-i-preserved
loop-i-preserved c = c.loop-i.invariant ∙ break_on _ _ c.loop-i-test.true (sym c.is_break.ensures ∙ c.if-is_break.false)

pub returns : goal.returns
returns c = sym (c.loop-i.invariant ∙ break_end _ _ c.loop-i-test.false)
