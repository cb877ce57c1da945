-- `link_targets::number_lines`: what is left to number, stored, gives the rows with all of them.
use Rattle.link_targets.proofs.Refs.{Numbering}
use Rattle.link_targets.proofs.number_lines.Given as goal

abbrev pub invariant-loop-line : goal.invariant-loop-line
invariant-loop-line l = Numbering l.n l.initial.rows l.rows l.line
