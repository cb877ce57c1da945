-- `load_questions::fill_questions_from`: what is left, stored, gives the table with all of them.
use Prim.Native.Nat.{◌-◌}
use lib.ListN.{length}
use Rattle.load_questions.proofs.Laws.{Asking}
use Rattle.load_questions.proofs.fill_questions_from.Given as goal

abbrev pub invariant-loop-start : goal.invariant-loop-start
invariant-loop-start l = Asking l.s l.at l.initial.questions l.questions l.i l.word l.pattern

abbrev pub decreases-loop-start : goal.decreases-loop-start
decreases-loop-start l = length l.s - l.i
