-- `write_counts::run_of`: the leaves up to i bear the number.
use Rattle.write_counts.proofs.Laws.{Running}
use Rattle.write_counts.proofs.run_of.Given as goal

abbrev pub invariant-loop-i : goal.invariant-loop-i
invariant-loop-i l = Running l.records l.first l.x l.k l.count l.i
