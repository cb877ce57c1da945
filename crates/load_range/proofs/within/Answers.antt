-- `load_range::within` meets its contract.
use Rattle.load_range.proofs.Laws.{starts_behind, ends_behind, stands_inside}
use Rattle.load_range.proofs.within.Goals as goal

pub returns-then-len-to : goal.returns-then-len-to
returns-then-len-to c = ends_behind _ _ _ c.if-len-to.true

pub returns-then-end-from : goal.returns-then-end-from
returns-then-end-from c = starts_behind _ _ _ c.if-end-from.true

pub returns : goal.returns
returns c = stands_inside _ _ _ c.if-end-from.false c.if-len-to.false
