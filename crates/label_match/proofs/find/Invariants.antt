-- `label_match::find`: the part stands at no place before i.
use Rattle.label_match.proofs.Laws.{Seeking}
use Rattle.label_match.proofs.find.Given as goal

abbrev pub invariant-loop-i : goal.invariant-loop-i
invariant-loop-i l = Seeking l.part l.label l.at l.i
