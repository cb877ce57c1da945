-- `load_lines::fill_lines`: what is left, stored and counted, gives the work and the count with all of them.
use mathlib.Core.Path.{sym, refl, ◌∙◌}
use native.Mathlib.Omega.{arith}
use Rattle.laws.proofs.Signed.{back}
use Rattle.tree_survey_lines.proofs.Counting.{line_few, next_in, last_in, counted_more, counted_last, counted_broken}
use Rattle.load_lines.proofs.Laws.{line_none, next_room, line_more, last_room, line_last, line_broken}
use Rattle.load_lines.proofs.fill_lines.Goals as goal

pub loop-line-init : goal.loop-line-init
loop-line-init c = (line_none _ _ _ _ _ c.requires.2, record { same = refl; few = omega arith })

pub asked-requires : goal.asked-requires
asked-requires c = (c.requires.0, c.requires.1)

pub put_line-requires : goal.put_line-requires
put_line-requires c = next_room _ _ _ _ _ _ _ _ c.loop-line.invariant.0 (sym c.in-Next.is ∙ c.next_line.ensures)

pub overflow_add-word : goal.overflow_add-word
overflow_add-word c = omega (arith, next_room _ _ _ _ _ _ _ _ c.loop-line.invariant.0 (sym c.in-Next.is ∙ c.next_line.ensures))

pub overflow_add-n : goal.overflow_add-n
overflow_add-n c = omega (arith, next_in _ c.loop-line.i (sym c.in-Next.is ∙ c.next_line.ensures), c.loop-line.invariant.1.few, c.well_formed)

pub overflow_add-m : goal.overflow_add-m
overflow_add-m c = omega (arith, c.line_pdfs-m.ensures, line_few c.in-Next.line, next_in _ c.loop-line.i (sym c.in-Next.is ∙ c.next_line.ensures), c.loop-line.invariant.1.few, c.well_formed)

pub loop-line-smaller : goal.loop-line-smaller
loop-line-smaller c = omega (arith, next_in _ _ (sym c.in-Next.is ∙ c.next_line.ensures))

pub loop-line-preserved : goal.loop-line-preserved
loop-line-preserved c =
    let step = sym c.in-Next.is ∙ c.next_line.ensures in (
      line_more _ _ _ _ _ _ _ _ c.loop-line.invariant.0 step _ (back _ c.asked.type_inv ∙ c.asked.ensures) _ c.put_line.ensures,
      counted_more _ c.loop-line.invariant.1 step c.line_pdfs-m.ensures,
    )

pub asked-requires-in-Last : goal.asked-requires-in-Last
asked-requires-in-Last c = (c.requires.0, c.requires.1)

pub put_line-requires-in-Last : goal.put_line-requires-in-Last
put_line-requires-in-Last c = last_room _ _ _ _ _ _ _ _ c.loop-line.invariant.0 (sym c.in-Last.is ∙ c.next_line.ensures)

pub overflow_add-result : goal.overflow_add-result
overflow_add-result c = omega (arith, last_in _ c.loop-line.i (sym c.in-Last.is ∙ c.next_line.ensures), c.loop-line.invariant.1.few, c.well_formed)

pub overflow_add-result-in-Last : goal.overflow_add-result-in-Last
overflow_add-result-in-Last c = omega (arith, c.line_pdfs.ensures, line_few c.in-Last.line, last_in _ c.loop-line.i (sym c.in-Last.is ∙ c.next_line.ensures), c.loop-line.invariant.1.few, c.well_formed)

pub shape_of-work-in-Last : goal.shape_of-work-in-Last
shape_of-work-in-Last c = c.put_line-in-Last.auto.work ∙ c.loop-line.invariant.0.long

pub returns-in-Last : goal.returns-in-Last
returns-in-Last c =
    let step = sym c.in-Last.is ∙ c.next_line.ensures in (
      counted_last _ c.loop-line.invariant.1 step c.line_pdfs.ensures,
      line_last _ _ _ _ _ _ _ _ c.loop-line.invariant.0 step _ (back _ c.asked-in-Last.type_inv ∙ c.asked-in-Last.ensures) _ c.put_line-in-Last.ensures,
    )

pub shape_of-work-in-Broken : goal.shape_of-work-in-Broken
shape_of-work-in-Broken c = c.loop-line.invariant.0.long

pub returns-in-Broken : goal.returns-in-Broken
returns-in-Broken c =
    let step = sym c.in-Broken.is ∙ c.next_line.ensures in
    (counted_broken _ c.loop-line.invariant.1 step, line_broken _ _ _ _ _ _ _ _ c.loop-line.invariant.0 step)
