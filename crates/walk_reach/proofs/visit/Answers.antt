-- `walk_reach::visit`: a leaf, a line whose sides go to the queue, or a record that is not good.
use Rattle.walk_reach.proofs.Visiting.{visited_leaf, visited_wrong, yes_outside, no_outside, yes_asks, no_asks, visited_line}
use Rattle.walk_reach.proofs.visit.Goals as goal

pub returns-then-many-yes : goal.returns-then-many-yes
returns-then-many-yes c = let a = c.args in yes_outside a.records.now a.first a.count c.look.ensures c.in-Line.is c.requires.1 c.records_in-many.ensures c.if-many-yes.true

pub returns-then-many-no : goal.returns-then-many-no
returns-then-many-no c = let a = c.args in no_outside a.records.now a.first a.count c.look.ensures c.in-Line.is c.requires.1 c.records_in-many.ensures c.if-many-no.true

pub push-next-requires : goal.push-next-requires
push-next-requires c = let a = c.args in yes_asks a.records.now a.first a.count c.look.ensures c.in-Line.is c.requires.1 c.records_in-many.ensures c.requires.0 c.if-many-yes.false

pub push-requires : goal.push-requires
push-requires c =
    let a = c.args in no_asks a.records.now a.first a.count c.look.ensures c.in-Line.is c.requires.1 c.records_in-many.ensures c.requires.0 c.if-many-yes.false c.push-next.ensures c.if-many-no.false

pub returns-in-Leaf : goal.returns-in-Leaf
returns-in-Leaf c = let a = c.args in visited_leaf a.records.now a.first a.count c.look.ensures c.requires.0 c.in-Leaf.is

pub returns-else-many-no : goal.returns-else-many-no
returns-else-many-no c =
    let a = c.args in visited_line a.records.now a.first a.count c.look.ensures c.in-Line.is c.requires.1 c.records_in-many.ensures c.requires.0 c.if-many-yes.false c.push-next.ensures c.if-many-no.false c.push.ensures

pub returns-in-Wrong : goal.returns-in-Wrong
returns-in-Wrong c = let a = c.args in visited_wrong a.records.now a.first a.count c.look.ensures c.requires.1 c.in-Wrong.is
