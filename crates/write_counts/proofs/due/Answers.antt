-- `write_counts::due`: the run of the first leaf of a number, else none.
use Rattle.write_counts.proofs.Laws.{due_first, due_none}
use Rattle.write_counts.proofs.due.Goals as goal

pub returns-then-first_leaf : goal.returns-then-first_leaf
returns-then-first_leaf c = due_first c.args.records.now c.args.first c.args.count c.args.lines c.args.k c.first_leaf.ensures c.if-first_leaf.true c.run_of.ensures

pub returns : goal.returns
returns c = due_none c.args.records.now c.args.first c.args.count c.args.lines c.args.k c.first_leaf.ensures c.if-first_leaf.false
