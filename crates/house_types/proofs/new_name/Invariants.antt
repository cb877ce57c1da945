-- `house_types::new_name`: no name below k has the bytes of the i-th.
use Rattle.laws.proofs.Every.{Passing}
use Rattle.house_types.proofs.Laws.{other}
use Rattle.house_types.proofs.new_name.Given as goal

abbrev pub invariant-loop-k : goal.invariant-loop-k
invariant-loop-k l = Passing (other l.file l.words l.i) l.i l.k
