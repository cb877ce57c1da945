-- `house_values::pairs_good` meets its contract.
use Rattle.house_values.specs.Values.{pair_good}
use Rattle.laws.proofs.Every.{Passing}
use Rattle.house_values.proofs.pairs_good.Given as goal

abbrev pub invariant-loop-k : goal.invariant-loop-k
invariant-loop-k l = Passing (pair_good l.variance l.values l.at) l.pairs l.k
