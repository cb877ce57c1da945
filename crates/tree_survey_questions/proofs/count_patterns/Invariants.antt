-- `tree_survey_questions::count_patterns`: what is counted, and what is still to be read, come to the same.
use Prim.Native.Nat.{◌-◌}
use lib.ListN.{length}
use Rattle.tree_survey_questions.proofs.Counting.{Counting}
use Rattle.tree_survey_questions.proofs.count_patterns.Given as goal

abbrev pub invariant-loop-next : goal.invariant-loop-next
invariant-loop-next l = Counting l.s l.at l.i l.n

abbrev pub decreases-loop-next : goal.decreases-loop-next
decreases-loop-next l = length l.s - l.i
