-- `walk_bare::seek`: by what is sought.
use mathlib.Core.Path.{sym, ap, ◌∙◌}
use Rattle.tree_line.specs.Lines.{lines_at}
use Rattle.walk_bare.specs.Bare.{sought_in}
use Rattle.walk_bare.proofs.seek.Goals as goal

pub returns-in-First : goal.returns-in-First
returns-in-First c = let a = c.args in c.line_at.ensures ∙ sym (ap (sought_in (lines_at a.s.now a.first).items) c.in-First.is)

pub returns-in-Bearing : goal.returns-in-Bearing
returns-in-Bearing c = let a = c.args in c.last_bearing.ensures ∙ sym (ap (sought_in (lines_at a.s.now a.first).items) c.in-Bearing.is)
