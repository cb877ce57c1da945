-- `walk_reach::reach`: what stands before the head is good, and all that it refers to is marked.
use mathlib.Core.Path.{refl, sym, ◌∙◌, subst}
use native.Mathlib.Omega.{arith}
use Rattle.written.specs.Depths.{stay, Met}
use Rattle.table_rows.specs.Rows.{records_in}
use Rattle.walk_reach.specs.Seeing.{tree_records_of}
use Rattle.walk_reach.specs.Reaching.{Reaches}
use Rattle.walk_reach.proofs.Rows.{not_good}
use Rattle.walk_reach.proofs.Queue.{queue_none, pushed_more, reaching_none, reaching_more, reaching_bad, reaching_all, head_met, head_room, head_below}
use Rattle.walk_reach.proofs.reach.Goals as goal

pub returns-then-records_in-eq0 : goal.returns-then-records_in-eq0
returns-then-records_in-eq0 c = let a = c.args in Reaches.one_bad (0, stay) (not_good a.records.now a.first a.count (sym c.if-records_in-eq0.true ∙ c.records_in.ensures) (omega arith))

pub push-tail-requires : goal.push-tail-requires
push-tail-requires c = let p = c.requires in (omega (arith, p.0, c.records_in.ensures, c.if-records_in-eq0.false), λ e. omega (arith, p.0, c.records_in.ensures, c.if-records_in-eq0.false))

pub loop-head-init : goal.loop-head-init
loop-head-init c =
    let a = c.args in
    let p = c.requires in
    let rows = tree_records_of a.records.now a.first a.count in
    let n = records_in a.records.now a.first a.count in
    (reaching_none rows n (pushed_more rows n (queue_none rows n p.0 p.1) (omega (arith, c.records_in.ensures, c.if-records_in-eq0.false)) (0, stay) c.push-tail.ensures), refl)

pub slot-k-requires : goal.slot-k-requires
slot-k-requires c = head_room _ _ c.loop-head.invariant.0 c.loop-head-test.true

pub visit-requires : goal.visit-requires
visit-requires c =
    let a = c.args in
    let s = c.loop-head.invariant.0 in
    (s.queue, subst (Met (tree_records_of a.records.now a.first a.count)) (sym c.slot-k.ensures) (head_met _ _ s c.loop-head-test.true))

pub overflow_add-head : goal.overflow_add-head
overflow_add-head c = let h = head_below _ _ c.loop-head.invariant.0 c.loop-head-test.true in omega (arith, c.loop-head.invariant.0.queue.room, h)

pub loop-head-smaller : goal.loop-head-smaller
loop-head-smaller c = let h = head_below _ _ c.loop-head.invariant.0 c.loop-head-test.true in omega (arith, h)

pub loop-head-preserved : goal.loop-head-preserved
loop-head-preserved c =
    let s = c.loop-head.invariant in
    (reaching_more _ _ s.0 c.loop-head-test.true c.slot-k.ensures c.visit.ensures c.in-Some.is, c.work-in-loop-head-1.given ∙ s.1)

pub shape_of-work-in-None : goal.shape_of-work-in-None
shape_of-work-in-None c = c.work-in-loop-head-1.given ∙ c.loop-head.invariant.1 ∙ c.work-1.given

pub returns-in-None : goal.returns-in-None
returns-in-None c = reaching_bad _ _ c.loop-head.invariant.0 c.loop-head-test.true c.visit.ensures c.in-None.is

pub shape_of-work : goal.shape_of-work
shape_of-work c = c.loop-head.invariant.1 ∙ c.work-1.given

pub returns : goal.returns
returns c = reaching_all _ _ c.loop-head.invariant.0 c.loop-head-test.false
