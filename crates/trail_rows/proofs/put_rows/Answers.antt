-- `trail_rows::put_rows`: the rows that are left, stored where the loop is, are all of them.
use mathlib.Core.Path.{refl, sym, ◌∙◌}
use native.Mathlib.Omega.{arith}
use Rattle.trail_rows.proofs.Laws.{rows_next, rows_last, storing_more, stored_last, stored_none}
use Rattle.trail_rows.proofs.put_rows.Goals as goal

pub loop-lines-init : goal.loop-lines-init
loop-lines-init c = record { same = refl; room = c.requires; long = refl }

pub put_words-requires : goal.put_words-requires
put_words-requires c = omega (arith, (rows_next _ 0 c.loop-lines.i (sym c.in-Next.is ∙ c.next_row.ensures)).1, c.loop-lines.invariant.room)

pub overflow_add-k : goal.overflow_add-k
overflow_add-k c = omega (arith, (rows_next _ 0 c.loop-lines.i (sym c.in-Next.is ∙ c.next_row.ensures)).1, c.loop-lines.invariant.room, c.well_formed)

pub loop-lines-smaller : goal.loop-lines-smaller
loop-lines-smaller c = let r = rows_next _ 0 c.loop-lines.i (sym c.in-Next.is ∙ c.next_row.ensures) in omega (arith, r.2, r.3)

pub loop-lines-preserved : goal.loop-lines-preserved
loop-lines-preserved c = storing_more _ _ _ _ _ c.loop-lines.invariant (sym c.in-Next.is ∙ c.next_row.ensures) c.put_words.ensures

pub put_words-requires-in-Last : goal.put_words-requires-in-Last
put_words-requires-in-Last c = omega (arith, (rows_last _ 0 c.loop-lines.i (sym c.in-Last.is ∙ c.next_row.ensures)).1, c.loop-lines.invariant.room)

pub returns-in-Last : goal.returns-in-Last
returns-in-Last c = stored_last _ _ _ _ _ c.loop-lines.invariant (sym c.in-Last.is ∙ c.next_row.ensures) c.put_words-in-Last.ensures

pub shape_of-t-in-Broken : goal.shape_of-t-in-Broken
shape_of-t-in-Broken c = c.loop-lines.invariant.long

pub returns-in-Broken : goal.returns-in-Broken
returns-in-Broken c = stored_none _ _ _ _ _ c.loop-lines.invariant (sym c.in-Broken.is ∙ c.next_row.ensures)
