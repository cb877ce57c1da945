-- `link_alone::one_of`: by whether its references are equal.
use Rattle.link_alone.proofs.Judging.{one_same, one_other}
use Rattle.link_alone.proofs.one_of.Goals as goal

pub returns-then-same_index : goal.returns-then-same_index
returns-then-same_index c = one_same c.args.line c.same_index.ensures c.if-same_index.true

pub returns-else-same_index : goal.returns-else-same_index
returns-else-same_index c = one_other c.args.line c.same_index.ensures c.if-same_index.false
