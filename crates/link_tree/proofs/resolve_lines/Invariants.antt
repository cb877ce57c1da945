-- `link_tree::resolve_lines`: what is left, stored, gives the rows with all of them.
use Rattle.link_tree.proofs.Laws.{Resolving}
use Rattle.link_tree.proofs.resolve_lines.Given as goal

abbrev pub invariant-loop-line : goal.invariant-loop-line
invariant-loop-line l = Resolving l.work l.n l.leaves l.ordered l.initial.rows l.rows l.line
