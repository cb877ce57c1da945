-- `link_rows::spread_leaves`: the leaves from k on stand as rows, those before it side by side.
use Rattle.link_rows.proofs.Laws.{Spreading}
use Rattle.link_rows.proofs.spread_leaves.Given as goal

abbrev pub invariant-loop-k : goal.invariant-loop-k
invariant-loop-k l = Spreading l.initial.rows l.first l.leaves l.rows l.k
