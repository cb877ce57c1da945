-- `walk_bare::follow`: what is left of the walk, with so many questions more, is the answer.
use Prim.Native.Nat.{◌-◌}
use Rattle.tree_question.specs.Questions.{questions_at}
use Rattle.tree_line.specs.Lines.{lines_at}
use Rattle.walk_bare.proofs.Laws.{Walking}
use Rattle.walk_bare.proofs.follow.Given as goal

abbrev pub invariant-loop-reply : goal.invariant-loop-reply
invariant-loop-reply l = Walking l.s (questions_at l.s l.at).items l.answers (lines_at l.s l.first).items l.limit l.n l.reply l.asked

abbrev pub decreases-loop-reply : goal.decreases-loop-reply
decreases-loop-reply l = l.n - l.asked
