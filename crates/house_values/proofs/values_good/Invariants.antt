-- `house_values::values_good` meets its contract.
use Prim.Native.Nat.{◌/◌}
use lib.ListN.{length}
use Rattle.house_values.specs.Values.{entry_good}
use Rattle.laws.proofs.Every.{Passing}
use Rattle.house_values.proofs.values_good.Given as goal

abbrev pub invariant-loop-i : goal.invariant-loop-i
invariant-loop-i l = Passing (entry_good l.variance l.width l.values) (length l.values / l.width) l.i
