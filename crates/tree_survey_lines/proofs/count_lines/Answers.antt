-- `tree_survey_lines::count_lines`: what is counted, and what is still to be read, come to the same.
use mathlib.Core.Path.{refl, sym, ◌∙◌}
use native.Mathlib.Omega.{arith}
use Rattle.tree_survey_lines.proofs.Counting.{line_few, next_in, last_in, counted_more, counted_last, counted_broken}
use Rattle.tree_survey_lines.proofs.count_lines.Goals as goal

pub loop-line-init : goal.loop-line-init
loop-line-init c = record { same = refl; few = omega arith }

pub overflow_add-n : goal.overflow_add-n
overflow_add-n c = omega (arith, next_in _ c.loop-line.i (sym c.in-Next.is ∙ c.next_line.ensures), c.loop-line.invariant.few, c.well_formed)

pub overflow_add-m : goal.overflow_add-m
overflow_add-m c = omega (arith, c.line_pdfs-m.ensures, line_few c.in-Next.line, next_in _ c.loop-line.i (sym c.in-Next.is ∙ c.next_line.ensures), c.loop-line.invariant.few, c.well_formed)

pub loop-line-smaller : goal.loop-line-smaller
loop-line-smaller c = omega (arith, next_in _ c.loop-line.i (sym c.in-Next.is ∙ c.next_line.ensures))

pub loop-line-preserved : goal.loop-line-preserved
loop-line-preserved c = counted_more _ c.loop-line.invariant (sym c.in-Next.is ∙ c.next_line.ensures) c.line_pdfs-m.ensures

pub overflow_add-result : goal.overflow_add-result
overflow_add-result c = omega (arith, last_in _ c.loop-line.i (sym c.in-Last.is ∙ c.next_line.ensures), c.loop-line.invariant.few, c.well_formed)

pub overflow_add-result-in-Last : goal.overflow_add-result-in-Last
overflow_add-result-in-Last c = omega (arith, c.line_pdfs.ensures, line_few c.in-Last.line, last_in _ c.loop-line.i (sym c.in-Last.is ∙ c.next_line.ensures), c.loop-line.invariant.few, c.well_formed)

pub returns-in-Last : goal.returns-in-Last
returns-in-Last c = counted_last _ c.loop-line.invariant (sym c.in-Last.is ∙ c.next_line.ensures) c.line_pdfs.ensures

pub returns-in-Broken : goal.returns-in-Broken
returns-in-Broken c = counted_broken _ c.loop-line.invariant (sym c.in-Broken.is ∙ c.next_line.ensures)
