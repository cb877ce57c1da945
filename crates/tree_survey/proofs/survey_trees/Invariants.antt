-- `tree_survey::survey_trees`: what is counted, and what is still to be read, come to the same.
use Prim.Native.Nat.{◌-◌}
use lib.ListN.{length}
use Rattle.tree_survey.proofs.Counting.{Surveying}
use Rattle.tree_survey.proofs.survey_trees.Given as goal

abbrev pub invariant-loop-negative : goal.invariant-loop-negative
invariant-loop-negative l = Surveying l.s l.at l.i l.below l.n l.m l.longest

abbrev pub decreases-loop-negative : goal.decreases-loop-negative
decreases-loop-negative l = length l.s - l.i
