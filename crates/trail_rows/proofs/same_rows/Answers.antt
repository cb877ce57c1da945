-- `trail_rows::same_rows`: what is left to compare decides.
use mathlib.Core.Path.{refl, sym, ◌∙◌}
use native.Mathlib.Omega.{arith}
use borrow.Author.Tests.{not-true, not-false}
use Rattle.trail_rows.proofs.Laws.{rows_next, rows_last, comparing_more, compared_other, compared_last, compared_none}
use Rattle.trail_rows.proofs.same_rows.Goals as goal

pub loop-lines-init : goal.loop-lines-init
loop-lines-init c = record { same = refl; room = c.requires }

pub same_words-requires : goal.same_words-requires
same_words-requires c = omega (arith, (rows_next _ 0 c.loop-lines.i (sym c.in-Next.is ∙ c.next_row.ensures)).1, c.loop-lines.invariant.room)

pub returns-then-not-same_words : goal.returns-then-not-same_words
returns-then-not-same_words c = compared_other _ _ _ _ _ c.loop-lines.invariant (sym c.in-Next.is ∙ c.next_row.ensures) c.same_words.ensures (not-true _ c.if-not-same_words.true-raw)

pub overflow_add-k : goal.overflow_add-k
overflow_add-k c = omega (arith, (rows_next _ 0 c.loop-lines.i (sym c.in-Next.is ∙ c.next_row.ensures)).1, c.loop-lines.invariant.room, c.well_formed)

pub loop-lines-smaller : goal.loop-lines-smaller
loop-lines-smaller c = let r = rows_next _ 0 c.loop-lines.i (sym c.in-Next.is ∙ c.next_row.ensures) in omega (arith, r.2, r.3)

pub loop-lines-preserved : goal.loop-lines-preserved
loop-lines-preserved c = comparing_more _ _ _ _ _ c.loop-lines.invariant (sym c.in-Next.is ∙ c.next_row.ensures) c.same_words.ensures (not-false _ c.if-not-same_words.false-raw)

pub same_words-requires-in-Last : goal.same_words-requires-in-Last
same_words-requires-in-Last c = omega (arith, (rows_last _ 0 c.loop-lines.i (sym c.in-Last.is ∙ c.next_row.ensures)).1, c.loop-lines.invariant.room)

pub returns-in-Last : goal.returns-in-Last
returns-in-Last c = compared_last _ _ _ _ _ c.loop-lines.invariant (sym c.in-Last.is ∙ c.next_row.ensures) c.same_words-in-Last.ensures

pub returns-in-Broken : goal.returns-in-Broken
returns-in-Broken c = compared_none _ _ _ _ _ c.loop-lines.invariant (sym c.in-Broken.is ∙ c.next_row.ensures)
