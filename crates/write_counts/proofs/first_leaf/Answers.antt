-- `write_counts::first_leaf`: the first of all leaves, or another number before it.
use Rattle.write_counts.proofs.Laws.{first_here, first_later}
use Rattle.write_counts.proofs.first_leaf.Goals as goal

pub returns-then-k-lines : goal.returns-then-k-lines
returns-then-k-lines c = first_here c.args.records.now c.args.first c.args.lines c.args.k c.if-k-lines.true

pub returns-else-k-lines : goal.returns-else-k-lines
returns-else-k-lines c = first_later c.args.records.now c.args.first c.args.lines c.args.k c.if-k-lines.false c.number.ensures c.number-else-k-lines.ensures
