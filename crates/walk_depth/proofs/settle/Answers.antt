-- `walk_depth::settle`: a leaf, a side that isn't known, or one more than the deeper side.
use mathlib.Core.Path.{refl}
use native.Mathlib.Omega.{arith}
use Rattle.walk_depth.proofs.Settling.{row_inside, settle_leaf, yes_inside, no_inside, down_yes, down_no, settle_no, settle_yes}
use Rattle.walk_depth.proofs.settle.Goals as goal

pub overflow_add-i : goal.overflow_add-i
overflow_add-i c = let a = c.args in let p = c.requires in let h = row_inside a.records.now a.first a.count p.0 p.1 in omega (arith, h)

pub record_kind-requires : goal.record_kind-requires
record_kind-requires c = let a = c.args in let p = c.requires in row_inside a.records.now a.first a.count p.0 p.1

pub returns-then-record_kind-ne0 : goal.returns-then-record_kind-ne0
returns-then-record_kind-ne0 c = let a = c.args in let p = c.requires in settle_leaf a.records.now a.first a.count p.0 p.1 c.record_kind.ensures c.if-record_kind-ne0.true

pub record_yes-yes-requires : goal.record_yes-yes-requires
record_yes-yes-requires c = let a = c.args in let p = c.requires in row_inside a.records.now a.first a.count p.0 p.1

pub slot-deep-requires : goal.slot-deep-requires
slot-deep-requires c = let a = c.args in let p = c.requires in let h = yes_inside a.records.now a.first a.count p.0 p.1 c.record_kind.ensures c.if-record_kind-ne0.false c.record_yes-yes.ensures refl in omega (arith, h, p.2)

pub returns-then-deep-eq0 : goal.returns-then-deep-eq0
returns-then-deep-eq0 c = let a = c.args in let p = c.requires in down_yes a.records.now a.first a.count p.0 p.1 c.record_kind.ensures c.if-record_kind-ne0.false c.record_yes-yes.ensures refl c.slot-deep.ensures c.if-deep-eq0.true

pub record_no-no-requires : goal.record_no-no-requires
record_no-no-requires c = let a = c.args in let p = c.requires in row_inside a.records.now a.first a.count p.0 p.1

pub slot-other-requires : goal.slot-other-requires
slot-other-requires c = let a = c.args in let p = c.requires in let h = no_inside a.records.now a.first a.count p.0 p.1 c.record_kind.ensures c.if-record_kind-ne0.false refl c.record_no-no.ensures in omega (arith, h, p.2)

pub returns-then-other-eq0 : goal.returns-then-other-eq0
returns-then-other-eq0 c = let a = c.args in let p = c.requires in down_no a.records.now a.first a.count p.0 p.1 c.record_kind.ensures c.if-record_kind-ne0.false c.record_yes-yes.ensures c.record_no-no.ensures c.slot-other.ensures c.if-other-eq0.true

pub overflow_add-result : goal.overflow_add-result
overflow_add-result c = let a = c.args in let p = c.requires in let h = no_inside a.records.now a.first a.count p.0 p.1 c.record_kind.ensures c.if-record_kind-ne0.false c.record_yes-yes.ensures c.record_no-no.ensures in let l = p.3.each _ h in omega (arith, l, c.slot-other.ensures, p.2)

pub overflow_add-result-else-deep-other : goal.overflow_add-result-else-deep-other
overflow_add-result-else-deep-other c = let a = c.args in let p = c.requires in let h = yes_inside a.records.now a.first a.count p.0 p.1 c.record_kind.ensures c.if-record_kind-ne0.false c.record_yes-yes.ensures c.record_no-no.ensures in let l = p.3.each _ h in omega (arith, l, c.slot-deep.ensures, p.2)

pub returns-then-deep-other : goal.returns-then-deep-other
returns-then-deep-other c = let a = c.args in let p = c.requires in settle_no a.records.now a.first a.count p.0 p.1 c.record_kind.ensures c.if-record_kind-ne0.false c.record_yes-yes.ensures c.record_no-no.ensures c.slot-deep.ensures c.slot-other.ensures c.if-deep-eq0.false c.if-other-eq0.false c.if-deep-other.true

pub returns-else-deep-other : goal.returns-else-deep-other
returns-else-deep-other c = let a = c.args in let p = c.requires in settle_yes a.records.now a.first a.count p.0 p.1 c.record_kind.ensures c.if-record_kind-ne0.false c.record_yes-yes.ensures c.record_no-no.ensures c.slot-deep.ensures c.slot-other.ensures c.if-deep-eq0.false c.if-other-eq0.false c.if-deep-other.false
