-- `write_counts::tally_refs`: references that are left, counted on, are all of them.
use Rattle.write_counts.proofs.Laws.{Tallying}
use Rattle.write_counts.proofs.tally_refs.Given as goal

abbrev pub invariant-loop-k : goal.invariant-loop-k
invariant-loop-k l = Tallying l.records l.first l.lines l.base l.initial.tally l.tally l.k
