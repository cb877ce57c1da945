-- `link_rows::spread_leaves`: the leaves from k on stand as rows, those before it side by side.
use native.Mathlib.Omega.{arith}
use Rattle.link_rows.proofs.Laws.{spread_none, spread_more, spread_done}
use Rattle.link_rows.proofs.spread_leaves.Goals as goal

pub loop-k-init : goal.loop-k-init
loop-k-init c = spread_none _ _ _

pub overflow_add-number : goal.overflow_add-number
overflow_add-number c = omega arith

pub offset_bounds-rows-first : goal.offset_bounds-rows-first
offset_bounds-rows-first c = omega arith

pub bounds-rows-first : goal.bounds-rows-first
bounds-rows-first c = omega arith

pub overflow_mul-k : goal.overflow_mul-k
overflow_mul-k c = omega arith

pub overflow_add-first : goal.overflow_add-first
overflow_add-first c = omega arith

pub put4-requires : goal.put4-requires
put4-requires c = omega arith

pub loop-k-smaller : goal.loop-k-smaller
loop-k-smaller c = omega arith

pub loop-k-preserved : goal.loop-k-preserved
loop-k-preserved c = spread_more _ _ _ c.requires _ _ c.loop-k.invariant c.loop-k-test.true _ c.put4.ensures

pub shape_of-rows : goal.shape_of-rows
shape_of-rows c = c.loop-k.invariant.long

pub returns : goal.returns
returns c = spread_done _ _ _ _ _ c.loop-k.invariant c.loop-k-test.false
