-- `link_alone::judge_lines`: what is judged, and what is still to be judged, come to the same.
use Prim.Native.Nat.{◌-◌}
use lib.ListN.{length}
use Rattle.tree_question.specs.Questions.{questions_at}
use Rattle.tree_line.specs.Lines.{lines_at}
use Rattle.link_alone.proofs.Judging.{Going}
use Rattle.link_alone.proofs.judge_lines.Given as goal

abbrev pub invariant-loop-line : goal.invariant-loop-line
invariant-loop-line l = Going l.s (questions_at l.s l.at).items (lines_at l.s l.first).items l.records l.i l.k l.fits

abbrev pub decreases-loop-line : goal.decreases-loop-line
decreases-loop-line l = length l.s - l.i
