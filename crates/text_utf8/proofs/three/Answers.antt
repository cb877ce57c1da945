-- `text_utf8::three` meets its contract: the bytes are tested one after the other, as the row is.
use mathlib.Core.Path.{sym, ◌∙◌}
use Rattle.text_utf8.proofs.Rows.{pair_at}
use Rattle.text_utf8.proofs.three.Goals as goal

pub returns-then-within-2 : goal.returns-then-within-2
returns-then-within-2 c =
    simp (pair_at, sym c.within.ensures ∙ c.if-within.true, sym c.within-then-within.ensures ∙ c.if-within-2.true)

pub returns-else-within-2 : goal.returns-else-within-2
returns-else-within-2 c =
    simp (pair_at, sym c.within.ensures ∙ c.if-within.true, sym c.within-then-within.ensures ∙ c.if-within-2.false)

pub returns-else-within : goal.returns-else-within
returns-else-within c = simp (pair_at, sym c.within.ensures ∙ c.if-within.false)
