-- `tree_survey_lines::survey_lines`: the first line, and those after it.
use mathlib.Core.Path.{sym, ◌∙◌}
use native.Mathlib.Omega.{arith}
use Rattle.tree_survey_lines.proofs.Counting.{line_few, room, surveyed_more, surveyed_stopped, surveyed_one, surveyed_none}
use Rattle.tree_survey_lines.proofs.survey_lines.Goals as goal

pub overflow_add-result : goal.overflow_add-result
overflow_add-result c = omega (arith, room _ c.args.at c.in-Next.second (sym c.in-Next.is ∙ c.next_line.ensures) (sym c.in_ok-count-in-Next.was ∙ c.count_lines.ensures), c.well_formed)

pub overflow_add-result-in-Next : goal.overflow_add-result-in-Next
overflow_add-result-in-Next c = omega (arith, room _ c.args.at c.in-Next.second (sym c.in-Next.is ∙ c.next_line.ensures) (sym c.in_ok-count-in-Next.was ∙ c.count_lines.ensures), c.well_formed)

pub overflow_add-result-in-Next-2 : goal.overflow_add-result-in-Next-2
overflow_add-result-in-Next-2 c = omega (arith, c.line_pdfs.ensures, line_few c.in-Next.line, room _ c.args.at c.in-Next.second (sym c.in-Next.is ∙ c.next_line.ensures) (sym c.in_ok-count-in-Next.was ∙ c.count_lines.ensures), c.well_formed)

pub overflow_add-result-in-Next-3 : goal.overflow_add-result-in-Next-3
overflow_add-result-in-Next-3 c = omega (arith, c.line_pdfs.ensures, line_few c.in-Next.line, room _ c.args.at c.in-Next.second (sym c.in-Next.is ∙ c.next_line.ensures) (sym c.in_ok-count-in-Next.was ∙ c.count_lines.ensures), c.well_formed)

pub returns-in_ok-count-in-Next : goal.returns-in_ok-count-in-Next
returns-in_ok-count-in-Next c = surveyed_more _ _ _ (sym c.in-Next.is ∙ c.next_line.ensures) (sym c.in_ok-count-in-Next.was ∙ c.count_lines.ensures) c.line_pdfs.ensures

pub returns-in_err-count-in-Next : goal.returns-in_err-count-in-Next
returns-in_err-count-in-Next c = c.from_residual.ensures ∙ surveyed_stopped _ _ _ (sym c.in-Next.is ∙ c.next_line.ensures) (sym c.in_err-count-in-Next.was ∙ c.count_lines.ensures)

pub returns-in-Last : goal.returns-in-Last
returns-in-Last c = surveyed_one _ _ (sym c.in-Last.is ∙ c.next_line.ensures) c.line_records.ensures

pub returns-in-Broken : goal.returns-in-Broken
returns-in-Broken c = surveyed_none _ _ (sym c.in-Broken.is ∙ c.next_line.ensures)
