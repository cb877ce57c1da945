-- `write_questions::follow`: the questions that are left say what all say.
use Rattle.write_questions.proofs.Chain.{Following}
use Rattle.write_questions.proofs.follow.Given as goal

abbrev pub invariant-loop-q : goal.invariant-loop-q
invariant-loop-q l = Following l.questions l.patterns l.n l.q l.k
