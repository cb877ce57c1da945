-- `text_utf8::four` meets its contract: the bytes are tested one after the other, as the row is.
use mathlib.Core.Path.{sym, ◌∙◌}
use Rattle.text_utf8.proofs.Rows.{triple_at}
use Rattle.text_utf8.proofs.four.Goals as goal

pub returns-then-within-3 : goal.returns-then-within-3
returns-then-within-3 c =
    simp (triple_at, sym c.within.ensures ∙ c.if-within.true, sym c.within-then-within.ensures ∙ c.if-within-2.true, sym c.within-then-within-2.ensures ∙ c.if-within-3.true)

pub returns-else-within-3 : goal.returns-else-within-3
returns-else-within-3 c =
    simp (triple_at, sym c.within.ensures ∙ c.if-within.true, sym c.within-then-within.ensures ∙ c.if-within-2.true, sym c.within-then-within-2.ensures ∙ c.if-within-3.false)

pub returns-else-within-2 : goal.returns-else-within-2
returns-else-within-2 c =
    simp (triple_at, sym c.within.ensures ∙ c.if-within.true, sym c.within-then-within.ensures ∙ c.if-within-2.false)

pub returns-else-within : goal.returns-else-within
returns-else-within c = simp (triple_at, sym c.within.ensures ∙ c.if-within.false)
