-- `write_put::put_part`: the bytes that are left, put where the loop is, are all of them.
use Rattle.write_put.proofs.Puts.{Leads}
use lib.ListN.{drop}
use Rattle.write_put.proofs.put_part.Given as goal

abbrev pub invariant-loop-x : goal.invariant-loop-x
invariant-loop-x l = Leads l.initial.b l.at l.x-items l.b l.k (drop l.x-index l.x-items)
