-- `write_links::grow`: the trees that are left say what all say.
use Rattle.write_links.proofs.Ways.{Growing}
use Rattle.write_links.proofs.grow.Given as goal

abbrev pub invariant-loop-t : goal.invariant-loop-t
invariant-loop-t l = Growing l.trees l.records l.n l.t l.k
