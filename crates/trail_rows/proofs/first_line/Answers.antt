-- `trail_rows::first_line`: by what stands there.
use mathlib.Core.Path.{sym, ap, ◌∙◌}
use Rattle.trail_rows.specs.Rows.{first_lines}
use Rattle.trail_rows.proofs.first_line.Goals as goal

pub returns-in-Next : goal.returns-in-Next
returns-in-Next c = c.one_line.ensures ∙ ap first_lines (sym c.in-Next.is ∙ c.next_line.ensures)

pub returns-in-Last : goal.returns-in-Last
returns-in-Last c = c.one_line-in-Last.ensures ∙ ap first_lines (sym c.in-Last.is ∙ c.next_line.ensures)

pub returns-in-Broken : goal.returns-in-Broken
returns-in-Broken c = ap first_lines (sym c.in-Broken.is ∙ c.next_line.ensures)
