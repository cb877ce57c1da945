-- `label_match::find`: the part stands at no place before i.
use mathlib.Core.Path.{sym, ◌∙◌}
use native.Mathlib.Omega.{arith}
use Rattle.label_match.proofs.Laws.{seeking_more, seeking_here, seeking_end, find_short}
use Rattle.label_match.proofs.find.Goals as goal

pub returns-then-label-at : goal.returns-then-label-at
returns-then-label-at c = find_short _ _ _ c.requires c.if-label-at.true

pub returns-then-stands : goal.returns-then-stands
returns-then-stands c = seeking_here _ _ _ _ c.loop-i.invariant (omega arith) (sym c.if-stands.true ∙ c.stands.ensures)

pub returns-else-stands : goal.returns-else-stands
returns-else-stands c = seeking_end _ _ _ _ (seeking_more _ _ _ _ c.loop-i.invariant (sym c.stands.ensures ∙ c.if-stands.false)) (omega arith) (omega arith)
