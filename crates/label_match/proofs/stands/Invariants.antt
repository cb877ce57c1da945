-- `label_match::stands`: k bytes of the part stand, and the answer is that of the others.
use Rattle.label_match.proofs.Laws.{Standing}
use Rattle.label_match.proofs.stands.Given as goal

abbrev pub invariant-loop-k : goal.invariant-loop-k
invariant-loop-k l = Standing l.part l.label l.at l.k
