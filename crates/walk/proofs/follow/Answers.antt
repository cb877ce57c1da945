-- `walk::follow`: what is left of the walk, with so many questions more, is the answer. A limit above what the tree can ask makes no
-- difference, so that the walk is one with the smaller of the two as its limit.
use mathlib.Core.Path.{sym, ◌∙◌}
use native.Mathlib.Omega.{arith}
use Rattle.walk.proofs.Following.{following_none, following_leaf, following_wrong, following_end, following_on}
use Rattle.walk.proofs.follow.Goals as goal

pub loop-asked-init : goal.loop-asked-init
loop-asked-init c =
    let a = c.args in
    following_none a.records.now a.first a.count a.answers.now a.limit c.records_in-most.ensures

pub returns-in-Leaf : goal.returns-in-Leaf
returns-in-Leaf c = following_leaf _ _ _ _ _ c.loop-asked.invariant (sym c.meet.ensures ∙ c.in-Leaf.is)

pub returns-in-Wrong : goal.returns-in-Wrong
returns-in-Wrong c = following_wrong _ _ _ _ _ c.loop-asked.invariant (sym c.meet.ensures ∙ c.in-Wrong.is)

pub loop-asked-preserved : goal.loop-asked-preserved
loop-asked-preserved c = following_on _ _ _ _ _ c.loop-asked.invariant (sym c.meet.ensures ∙ c.in-Line.is) (omega (arith, c.min-asked-end.ensures))

pub returns-in-Line : goal.returns-in-Line
returns-in-Line c = following_end _ _ _ _ _ c.loop-asked.invariant (sym c.meet.ensures ∙ c.in-Line.is) (omega (arith, c.min-asked-end.ensures))
