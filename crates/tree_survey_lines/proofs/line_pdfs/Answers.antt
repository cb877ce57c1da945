-- `tree_survey_lines::line_pdfs`: two counts of one at most.
use native.Mathlib.Omega.{arith}
use Rattle.tree_survey_lines.proofs.Counting.{pdf_few}
use Rattle.tree_survey_lines.proofs.line_pdfs.Goals as goal

pub overflow_add-result : goal.overflow_add-result
overflow_add-result c = omega (arith, c.pdf_count-2.ensures, c.pdf_count.ensures, pdf_few c.args.line.no, pdf_few c.args.line.yes)
