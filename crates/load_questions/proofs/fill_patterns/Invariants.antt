-- `load_questions::fill_patterns`: what is left, stored and counted, gives the table and the count with all of them.
use Prim.Native.Nat.{◌-◌}
use lib.ListN.{length}
use Rattle.tree_survey_questions.proofs.Counting.{Counting}
use Rattle.load_questions.proofs.Patterns.{Matching}
use Rattle.load_questions.proofs.fill_patterns.Given as goal

abbrev pub invariant-loop-start : goal.invariant-loop-start
invariant-loop-start l = (Matching l.s l.at l.from l.initial.patterns l.patterns l.i l.word) × Counting l.s l.at l.i l.n

abbrev pub decreases-loop-start : goal.decreases-loop-start
decreases-loop-start l = length l.s - l.i
