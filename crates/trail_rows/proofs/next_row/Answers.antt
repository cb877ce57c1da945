-- `trail_rows::next_row`: the survey of the tree, with the lines of its row.
use mathlib.Core.Path.{sym, ◌∙◌}
use Rattle.trail_rows.proofs.Laws.{row_next, row_last, row_broken}
use Rattle.trail_rows.proofs.next_row.Goals as goal

pub returns-in-Next : goal.returns-in-Next
returns-in-Next c = row_next _ c.args.at (sym c.in-Next.is ∙ c.survey_tree.ensures) c.row_lines.ensures

pub returns-in-Last : goal.returns-in-Last
returns-in-Last c = row_last _ c.args.at (sym c.in-Last.is ∙ c.survey_tree.ensures) c.row_lines-in-Last.ensures

pub returns-in-Broken : goal.returns-in-Broken
returns-in-Broken c = row_broken _ c.args.at (sym c.in-Broken.is ∙ c.survey_tree.ensures)
