-- `write_figures::figures_len`: the digits that are left, counted on, are all of them.
use Rattle.write_figures.proofs.Digits.{Counting}
use Rattle.write_figures.proofs.figures_len.Given as goal

abbrev pub invariant-loop-m : goal.invariant-loop-m
invariant-loop-m l = Counting l.n l.m l.k

abbrev pub decreases-loop-m : goal.decreases-loop-m
decreases-loop-m l = l.m
