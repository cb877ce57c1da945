-- `write_figures::put_figures`: the digits that are left, stored, give the buffer with all of them.
use Rattle.write_figures.proofs.Digits.{Storing}
use Rattle.write_figures.proofs.put_figures.Given as goal

abbrev pub invariant-loop-m : goal.invariant-loop-m
invariant-loop-m l = Storing l.initial.b l.at l.n l.b l.m l.k

abbrev pub decreases-loop-m : goal.decreases-loop-m
decreases-loop-m l = l.m
