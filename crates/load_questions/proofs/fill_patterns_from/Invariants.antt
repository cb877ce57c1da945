-- `load_questions::fill_patterns_from`: what is left, stored, gives the table with all of them.
use Prim.Native.Nat.{◌-◌}
use lib.ListN.{length}
use Rattle.tree_question.proofs.Filling.{questions_from_here}
use Rattle.load_questions.specs.Words.{Done}
use Rattle.load_questions.proofs.Patterns.{Listing}
use Rattle.load_questions.proofs.fill_patterns_from.Given as goal

abbrev pub invariant-loop-head : goal.invariant-loop-head
invariant-loop-head l = (Listing l.s l.at l.initial.patterns l.patterns l.i l.word) × Done (questions_from_here l.s l.i)

abbrev pub decreases-loop-head : goal.decreases-loop-head
decreases-loop-head l = length l.s - l.i
