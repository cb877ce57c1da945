-- `face_house::before`: 29, then 24, or neither.
use mathlib.Core.Path.{sym, ◌∙◌}
use Rattle.load_bounds.specs.Bounds.{held_of}
use Rattle.face_house.proofs.Laws.{before_held, before_by}
use Rattle.face_house.proofs.before.Goals as goal

pub returns-then-holding : goal.returns-then-holding
returns-then-holding c = let a = c.args in before_held a.side (held_of a.mine) (held_of a.other) _ _ _ _ _ (sym c.holding.ensures ∙ c.if-holding.true)

pub returns-then-standing : goal.returns-then-standing
returns-then-standing c = let a = c.args in before_by a.side (held_of a.mine) (held_of a.other) _ _ _ _ _ (sym c.holding.ensures ∙ c.if-holding.false) _ (sym c.standing.ensures ∙ c.if-standing.true)

pub returns : goal.returns
returns c = let a = c.args in before_by a.side (held_of a.mine) (held_of a.other) _ _ _ _ _ (sym c.holding.ensures ∙ c.if-holding.false) _ (sym c.standing.ensures ∙ c.if-standing.false)
