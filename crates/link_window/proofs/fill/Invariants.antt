-- `link_window::fill`: line by line.
use Rattle.link_window.proofs.Laws.{Taking}
use Rattle.link_window.proofs.fill.Given as goal

abbrev pub invariant-loop-k : goal.invariant-loop-k
invariant-loop-k l = Taking l.s l.first l.initial.names l.names l.i l.k
