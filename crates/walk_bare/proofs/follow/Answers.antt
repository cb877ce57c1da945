-- `walk_bare::follow`: what is left of the walk, with so many questions more, is the answer.
use mathlib.Core.Path.{sym, ◌∙◌}
use native.Mathlib.Omega.{arith}
use Rattle.walk_bare.proofs.Laws.{walking_none, walking_missing, walking_limit, walking_reach, walking_leaf, walking_on}
use Rattle.walk_bare.proofs.follow.Goals as goal

pub loop-reply-init : goal.loop-reply-init
loop-reply-init c = walking_none _ _ _ _ _ _ c.requires c.ask-reply.ensures

pub returns-then-asked-limit : goal.returns-then-asked-limit
returns-then-asked-limit c = walking_limit _ _ _ _ c.loop-reply.invariant c.in-Some.is c.if-asked-limit.true

pub returns-then-asked-n : goal.returns-then-asked-n
returns-then-asked-n c = walking_reach _ _ _ _ c.loop-reply.invariant c.in-Some.is c.if-asked-n.true

pub overflow_add-asked : goal.overflow_add-asked
overflow_add-asked c = omega (arith, c.loop-reply.invariant.follows.bounded, c.loop-reply.invariant.follows.limited, c.if-asked-n.false, c.if-asked-limit.false)

pub returns-in-Leaf : goal.returns-in-Leaf
returns-in-Leaf c = walking_leaf _ _ _ _ c.loop-reply.invariant c.in-Some.is c.if-asked-limit.false c.if-asked-n.false (sym c.in-Leaf.is ∙ c.turn_of.ensures)

pub loop-reply-smaller : goal.loop-reply-smaller
loop-reply-smaller c = omega (arith, c.loop-reply.invariant.follows.bounded, c.if-asked-n.false)

pub loop-reply-preserved : goal.loop-reply-preserved
loop-reply-preserved c = walking_on _ _ _ _ c.loop-reply.invariant c.in-Some.is c.if-asked-limit.false c.if-asked-n.false (sym c.in-Line.is ∙ c.turn_of.ensures) c.ask-reply-in-Line.ensures

pub returns-in-None : goal.returns-in-None
returns-in-None c = walking_missing _ _ _ _ c.loop-reply.invariant c.in-None.is
