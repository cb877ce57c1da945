-- `label_match::part_end`: no star up to `end`.
use Rattle.label_match.proofs.Laws.{Starless}
use Rattle.label_match.proofs.part_end.Given as goal

abbrev pub invariant-loop-end : goal.invariant-loop-end
invariant-loop-end l = Starless l.pattern l.from l.end
