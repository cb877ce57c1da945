-- `trail_rows::one_line` meets its contract.
use Rattle.trail_rows.proofs.Laws.{one_same, one_other}
use Rattle.trail_rows.proofs.one_line.Goals as goal

pub returns-then-same_index : goal.returns-then-same_index
returns-then-same_index c = one_same c.args.line c.same_index.ensures c.if-same_index.true

pub returns : goal.returns
returns c = one_other c.args.line c.same_index.ensures c.if-same_index.false
