-- `text_utf8::two` meets its contract: the bytes are tested one after the other, as the row is.
use mathlib.Core.Path.{sym, ◌∙◌}
use Rattle.text_utf8.proofs.two.Goals as goal

pub returns-then-within : goal.returns-then-within
returns-then-within c = simp (sym c.within.ensures ∙ c.if-within.true)

pub returns-else-within : goal.returns-else-within
returns-else-within c = simp (sym c.within.ensures ∙ c.if-within.false)
