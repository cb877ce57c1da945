-- `walk_bare::line_at`: the first line from the place on.
use mathlib.Core.Path.{sym, ap, ◌∙◌}
use Rattle.tree_survey_lines.proofs.Counting.{items_next, items_last, items_broken}
use Rattle.walk_bare.specs.Bare.{first_of}
use Rattle.walk_bare.proofs.line_at.Goals as goal

pub returns-in-Next : goal.returns-in-Next
returns-in-Next c = sym (ap first_of (items_next _ _ (sym c.in-Next.is ∙ c.next_line.ensures)))

pub returns-in-Last : goal.returns-in-Last
returns-in-Last c = sym (ap first_of (items_last _ _ (sym c.in-Last.is ∙ c.next_line.ensures)))

pub returns-in-Broken : goal.returns-in-Broken
returns-in-Broken c = sym (ap first_of (items_broken _ _ (sym c.in-Broken.is ∙ c.next_line.ensures)))
