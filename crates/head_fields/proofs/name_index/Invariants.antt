-- `head_fields::name_index`: the names passed and the number of the key among those left give the answer in each turn.
use Rattle.head_fields.proofs.Listed.{Seeking}
use Rattle.head_fields.proofs.name_index.Given as goal

abbrev pub invariant-loop-b : goal.invariant-loop-b
invariant-loop-b l = Seeking l.w l.names l.name l.same l.b-index
