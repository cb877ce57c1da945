-- `link_window::lower`: by both.
use mathlib.Core.Path.{sym, ap₂, ◌∙◌}
use Rattle.link_window.specs.Windows.{fault_lines}
use Rattle.link_window.proofs.Laws.{lower_question, lower_node}
use Rattle.link_window.proofs.lower.Goals as goal

pub returns-then-b-a : goal.returns-then-b-a
returns-then-b-a c = c.refused.ensures ∙ lower_question c.if-b-a.true ∙ sym (ap₂ fault_lines c.in-Some.is c.in-Some-unasked.is)

pub returns-else-b-a : goal.returns-else-b-a
returns-else-b-a c = c.refused-else-b-a.ensures ∙ lower_node c.if-b-a.false ∙ sym (ap₂ fault_lines c.in-Some.is c.in-Some-unasked.is)

pub returns-in-None-unasked : goal.returns-in-None-unasked
returns-in-None-unasked c = c.refused-in-None-unasked.ensures ∙ sym (ap₂ fault_lines c.in-Some.is c.in-None-unasked.is)

pub returns-in-Some-unasked-2 : goal.returns-in-Some-unasked-2
returns-in-Some-unasked-2 c = c.refused-in-Some-unasked-2.ensures ∙ sym (ap₂ fault_lines c.in-None.is c.in-Some-unasked-2.is)

pub returns-in-None-unasked-2 : goal.returns-in-None-unasked-2
returns-in-None-unasked-2 c = sym (ap₂ fault_lines c.in-None.is c.in-None-unasked-2.is)
