-- `walk_depth::climb`: a way of records from the first on, none of them settled. Each turn settles one and shortens the way, or makes it longer: what falls is twice the records that aren't settled, and what is left of the way.
use mathlib.Core.Path.{refl, sym, ◌∙◌, subst}
use Prim.Native.Nat.{◌+◌, ◌-◌, ◌*◌, ◌<◌}
use native.Mathlib.Omega.{arith}
use Rattle.written.specs.Depths.{stay}
use Rattle.table_rows.specs.Rows.{records_in}
use Rattle.walk_reach.specs.Work.{slot_at, zeros}
use Rattle.walk_reach.specs.Seeing.{tree_records_of}
use Rattle.walk_reach.proofs.Rows.{good_inside}
use Rattle.walk_depth.specs.Climbing.{Settles}
use Rattle.walk_depth.proofs.Climbing.{Climbing, climbing_first, all_small, last_met, last_inside, last_room, settled_most, climbing_settled, settled_less, down_met, climbing_round, down_room, climbing_down, down_less, climbing_found, found_some}
use Rattle.walk_depth.proofs.climb.Goals as goal

pub loop-len-init : goal.loop-len-init
loop-len-init c =
    let a = c.args in
    let p = c.requires in (
      climbing_first (tree_records_of a.records.now a.first a.count) (records_in a.records.now a.first a.count)
          (let h = good_inside a.records.now a.first a.count (p.0 0 (0, stay)) in omega (arith, h)) p.1 p.2,
      refl,
      c.records_in-many.ensures,
    )

pub overflow_sub-len : goal.overflow_sub-len
overflow_sub-len c = omega (arith, c.loop-len-test.true)

pub slot-k-requires : goal.slot-k-requires
slot-k-requires c = last_room _ _ c.loop-len.invariant.0 c.loop-len-test.true refl

pub settle-requires : goal.settle-requires
settle-requires c =
    let p = c.requires in
    let s = c.loop-len.invariant.0 in
    (p.0, last_met _ _ s c.loop-len-test.true c.slot-k.ensures, s.room, all_small _ _ s)

pub put_slot-requires : goal.put_slot-requires
put_slot-requires c =
    let a = c.args in
    let rows = tree_records_of a.records.now a.first a.count in
    let n = records_in a.records.now a.first a.count in
    let s = c.loop-len.invariant in
    let x = subst (Settles rows n c.loop-len.work c.slot-k.result) c.in-Settled.is c.settle.ensures in
    let h = last_inside rows n s.0 c.loop-len-test.true c.slot-k.ensures in
    let v = settled_most rows n s.0 c.loop-len-test.true c.slot-k.ensures x in
    (omega (arith, h, s.0.room), omega (arith, h, v, s.0.room, s.1))

pub overflow_sub-len-in-Settled : goal.overflow_sub-len-in-Settled
overflow_sub-len-in-Settled c = omega (arith, c.loop-len-test.true)

pub loop-len-smaller-in-Settled : goal.loop-len-smaller-in-Settled
loop-len-smaller-in-Settled c =
    let a = c.args in
    let rows = tree_records_of a.records.now a.first a.count in
    let n = records_in a.records.now a.first a.count in
    let s = c.loop-len.invariant in
    let x = subst (Settles rows n c.loop-len.work c.slot-k.result) c.in-Settled.is c.settle.ensures in
    subst (λ w. 2 * zeros (slot_at 2 w) n + (n - (c.loop-len.len - 1)) < 2 * zeros (slot_at 2 c.loop-len.work) n + (n - c.loop-len.len)) (sym c.put_slot.ensures)
    (settled_less rows n s.0 c.loop-len-test.true c.slot-k.ensures x)

pub loop-len-preserved-in-Settled : goal.loop-len-preserved-in-Settled
loop-len-preserved-in-Settled c =
    let a = c.args in
    let rows = tree_records_of a.records.now a.first a.count in
    let n = records_in a.records.now a.first a.count in
    let s = c.loop-len.invariant in
    let x = subst (Settles rows n c.loop-len.work c.slot-k.result) c.in-Settled.is c.settle.ensures in
    (subst (λ w. Climbing rows n w (c.loop-len.len - 1)) (sym c.put_slot.ensures) (climbing_settled rows n s.0 c.loop-len-test.true c.slot-k.ensures x), c.work-1.given ∙ s.1, s.2)

pub shape_of-work-then-len-many : goal.shape_of-work-then-len-many
shape_of-work-then-len-many c = c.loop-len.invariant.1

pub returns-then-len-many : goal.returns-then-len-many
returns-then-len-many c =
    let a = c.args in
    let rows = tree_records_of a.records.now a.first a.count in
    let n = records_in a.records.now a.first a.count in
    let s = c.loop-len.invariant in
    let x = subst (Settles rows n c.loop-len.work c.slot-k.result) c.in-Down.is c.settle.ensures in
    climbing_round rows n s.0 c.loop-len-test.true c.slot-k.ensures x (good_inside a.records.now a.first a.count (c.requires.0 _ (down_met rows n s.0 c.loop-len-test.true c.slot-k.ensures x))) (c.if-len-many.true ∙ s.2)

pub put_slot-requires-in-Down : goal.put_slot-requires-in-Down
put_slot-requires-in-Down c =
    let a = c.args in
    let rows = tree_records_of a.records.now a.first a.count in
    let n = records_in a.records.now a.first a.count in
    let s = c.loop-len.invariant in
    let x = subst (Settles rows n c.loop-len.work c.slot-k.result) c.in-Down.is c.settle.ensures in
    let g = good_inside a.records.now a.first a.count (c.requires.0 _ (down_met rows n s.0 c.loop-len-test.true c.slot-k.ensures x)) in
    (down_room rows n s.0 c.loop-len-test.true c.slot-k.ensures x g (λ e. c.if-len-many.false (e ∙ sym s.2)), omega (arith, g, s.0.room, s.1))

pub overflow_add-len : goal.overflow_add-len
overflow_add-len c = omega (arith, c.loop-len.invariant.0.fits, c.loop-len.invariant.0.room, c.loop-len.invariant.1)

pub loop-len-smaller : goal.loop-len-smaller
loop-len-smaller c =
    let a = c.args in
    let rows = tree_records_of a.records.now a.first a.count in
    let n = records_in a.records.now a.first a.count in
    let s = c.loop-len.invariant in
    let x = subst (Settles rows n c.loop-len.work c.slot-k.result) c.in-Down.is c.settle.ensures in
    let g = good_inside a.records.now a.first a.count (c.requires.0 _ (down_met rows n s.0 c.loop-len-test.true c.slot-k.ensures x)) in
    subst (λ w. 2 * zeros (slot_at 2 w) n + (n - (c.loop-len.len + 1)) < 2 * zeros (slot_at 2 c.loop-len.work) n + (n - c.loop-len.len)) (sym c.put_slot-in-Down.ensures)
    (down_less rows n s.0 c.loop-len-test.true c.slot-k.ensures x g (λ e. c.if-len-many.false (e ∙ sym s.2)))

pub loop-len-preserved : goal.loop-len-preserved
loop-len-preserved c =
    let a = c.args in
    let rows = tree_records_of a.records.now a.first a.count in
    let n = records_in a.records.now a.first a.count in
    let s = c.loop-len.invariant in
    let x = subst (Settles rows n c.loop-len.work c.slot-k.result) c.in-Down.is c.settle.ensures in
    let g = good_inside a.records.now a.first a.count (c.requires.0 _ (down_met rows n s.0 c.loop-len-test.true c.slot-k.ensures x)) in
    (subst (λ w. Climbing rows n w (c.loop-len.len + 1)) (sym c.put_slot-in-Down.ensures) (climbing_down rows n s.0 c.loop-len-test.true c.slot-k.ensures x g (λ e. c.if-len-many.false (e ∙ sym s.2))), c.work-in-Down-1.given ∙ s.1, s.2)

pub slot-requires : goal.slot-requires
slot-requires c =
    let a = c.args in
    let h = good_inside a.records.now a.first a.count (c.requires.0 0 (0, stay)) in
    omega (arith, h, c.loop-len.invariant.0.room)

pub overflow_sub-result : goal.overflow_sub-result
overflow_sub-result c = found_some _ _ c.loop-len.invariant.0 c.loop-len-test.false c.slot.ensures

pub shape_of-work : goal.shape_of-work
shape_of-work c = c.loop-len.invariant.1

pub returns : goal.returns
returns c =
    let a = c.args in
    let h = good_inside a.records.now a.first a.count (c.requires.0 0 (0, stay)) in
    climbing_found _ _ c.loop-len.invariant.0 (omega (arith, h)) c.loop-len-test.false c.slot.ensures
