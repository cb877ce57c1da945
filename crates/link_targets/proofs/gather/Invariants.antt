-- `link_targets::gather`: what is left, stored from `end` on, gives the rows with all of them.
use Rattle.link_targets.proofs.Refs.{Gathering}
use Rattle.link_targets.proofs.gather.Given as goal

abbrev pub invariant-loop-line : goal.invariant-loop-line
invariant-loop-line l = Gathering l.work l.n l.initial.rows l.at l.rows l.line l.end
