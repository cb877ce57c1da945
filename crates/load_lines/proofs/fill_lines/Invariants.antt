-- `load_lines::fill_lines`: what is left, stored and counted, gives the work and the count with all of them.
use Prim.Native.Nat.{◌-◌}
use lib.ListN.{length}
use Rattle.tree_survey_lines.proofs.Counting.{Counting}
use Rattle.load_lines.proofs.Laws.{Lining}
use Rattle.load_lines.proofs.fill_lines.Given as goal

abbrev pub invariant-loop-line : goal.invariant-loop-line
invariant-loop-line l = (Lining l.s l.questions (length l.index) l.at l.initial.work l.work l.i l.word) × Counting l.s l.at l.i l.n l.m

abbrev pub decreases-loop-line : goal.decreases-loop-line
decreases-loop-line l = length l.s - l.i
