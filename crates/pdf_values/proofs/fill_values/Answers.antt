-- `pdf_values::fill_values`: what is left, stored, gives the table with all of them.
use native.Mathlib.Omega.{arith}
use Rattle.pdf_values.proofs.Laws.{store_none, entry_room, next_room, store_more, store_done}
use Rattle.pdf_values.proofs.fill_values.Goals as goal

pub loop-init : goal.loop-init
loop-init c = store_none _ _ _ _ _ c.requires.0 c.requires.1

pub fill_entry-requires : goal.fill_entry-requires
fill_entry-requires c = entry_room _ _ _ _ _ _ _ _ _ c.loop.invariant (omega arith)

pub overflow_mul-i : goal.overflow_mul-i
overflow_mul-i c = omega (arith, next_room _ _ _ _ _ _ _ _ _ c.loop.invariant (omega arith))

pub overflow_add-i : goal.overflow_add-i
overflow_add-i c = omega (arith, next_room _ _ _ _ _ _ _ _ _ c.loop.invariant (omega arith))

pub overflow_add-first : goal.overflow_add-first
overflow_add-first c = omega (arith, next_room _ _ _ _ _ _ _ _ _ c.loop.invariant (omega arith))

pub loop-preserved : goal.loop-preserved
loop-preserved c = store_more _ _ _ _ _ _ _ _ _ c.loop.invariant (omega arith) _ c.fill_entry.ensures

pub shape_of-values : goal.shape_of-values
shape_of-values c = c.loop.invariant.long

pub returns : goal.returns
returns c = store_done _ _ _ _ _ _ _ _ _ c.loop.invariant (omega arith)
