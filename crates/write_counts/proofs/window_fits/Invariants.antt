-- `write_counts::window_fits`: each count, by what is due.
use Rattle.write_counts.proofs.Laws.{Inside}
use Rattle.write_counts.specs.Counts.{counted}
use Rattle.write_counts.proofs.window_fits.Given as goal

abbrev pub invariant-loop-j : goal.invariant-loop-j
invariant-loop-j l = Inside (counted l.records l.first l.count l.lines) l.base l.size l.j
