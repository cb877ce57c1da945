-- `tree_survey_lines::count_lines`: what is counted, and what is still to be read, come to the same.
use Prim.Native.Nat.{◌-◌}
use lib.ListN.{length}
use Rattle.tree_survey_lines.proofs.Counting.{Counting}
use Rattle.tree_survey_lines.proofs.count_lines.Given as goal

abbrev pub invariant-loop-line : goal.invariant-loop-line
invariant-loop-line l = Counting l.s l.at l.i l.n l.m

abbrev pub decreases-loop-line : goal.decreases-loop-line
decreases-loop-line l = length l.s - l.i
