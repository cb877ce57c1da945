-- `pdf_values::fill_blocks`: what is left, stored, gives the table with all rows.
use native.Mathlib.Omega.{arith}
use Rattle.pdf_values.proofs.Laws.{row_room, set_more, set_done}
use Rattle.pdf_values.proofs.fill_blocks.Goals as goal

pub overflow_mul-first : goal.overflow_mul-first
overflow_mul-first c = omega (arith, row_room _ _ _ _ _ _ _ _ c.loop-k.invariant c.loop-k-test.true _ c.word-entries.ensures, c.requires)

pub overflow_add-first : goal.overflow_add-first
overflow_add-first c = omega (arith, row_room _ _ _ _ _ _ _ _ c.loop-k.invariant c.loop-k-test.true _ c.word-entries.ensures, c.requires)

pub loop-k-preserved : goal.loop-k-preserved
loop-k-preserved c = set_more _ _ _ _ _ _ _ _ c.loop-k.invariant c.loop-k-test.true _ c.word-entries.ensures _ c.put_block.ensures

pub returns : goal.returns
returns c = set_done _ _ _ _ _ _ _ _ c.loop-k.invariant c.loop-k-test.false
