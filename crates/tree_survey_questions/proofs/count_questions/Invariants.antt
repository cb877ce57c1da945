-- `tree_survey_questions::count_questions`: what is counted, and what is still to be read, come to the same.
use Prim.Native.Nat.{◌-◌}
use lib.ListN.{length}
use Rattle.tree_survey_questions.proofs.Counting.{Surveying}
use Rattle.tree_survey_questions.proofs.count_questions.Given as goal

abbrev pub invariant-loop-patterns : goal.invariant-loop-patterns
invariant-loop-patterns l = Surveying l.s l.at l.i l.n l.m

abbrev pub decreases-loop-patterns : goal.decreases-loop-patterns
decreases-loop-patterns l = length l.s - l.i
