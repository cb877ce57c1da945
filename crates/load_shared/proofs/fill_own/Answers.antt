-- `load_shared::fill_own`: five parts, each the rows of the task, lent in one call; what comes back is put there.
use Rattle.load_bounds.proofs.Laws.{needs_room, need_cuts}
use native.Mathlib.Omega.{arith}
use borrow.Rule.Slice.PartMut.{same_len_mid}
use Rattle.load_model.proofs.Laws.{small_values}
use Rattle.load_bounds.specs.Bounds.{side_of}
use Rattle.load_shared.proofs.Laws.{parts_room, own_filled}
use Rattle.load_shared.proofs.fill_own.Goals as goal

pub need-requires : goal.need-requires
need-requires c = small_values c.args.d.now c.args.p c.requires.0 (omega (arith, c.well_formed))

pub own_parts-own-requires : goal.own_parts-own-requires
own_parts-own-requires c = let h = c.requires.1 in needs_room c.args.p c.need.ensures _ _ _ _ _ h.questions h.patterns h.trees h.records h.values

pub offset_bounds-questions-own : goal.offset_bounds-questions-own
offset_bounds-questions-own c = omega (arith, c.own_parts-own.ensures.questions.end, c.own_parts-own.ensures.questions.within, c.well_formed)

pub slice_bounds-fill-count : goal.slice_bounds-fill-count
slice_bounds-fill-count c = omega (arith, c.own_parts-own.ensures.questions.end, c.own_parts-own.ensures.questions.within, c.well_formed)

pub slice_bounds-fill-start : goal.slice_bounds-fill-start
slice_bounds-fill-start c = omega (arith, c.own_parts-own.ensures.questions.end, c.own_parts-own.ensures.questions.within, c.well_formed)

pub slice_bounds-fill-end : goal.slice_bounds-fill-end
slice_bounds-fill-end c = omega (arith, c.own_parts-own.ensures.questions.end, c.own_parts-own.ensures.questions.within, c.well_formed)

pub offset_bounds-patterns-own : goal.offset_bounds-patterns-own
offset_bounds-patterns-own c = omega (arith, c.own_parts-own.ensures.patterns.end, c.own_parts-own.ensures.patterns.within, c.well_formed)

pub slice_bounds-fill-count-2 : goal.slice_bounds-fill-count-2
slice_bounds-fill-count-2 c = omega (arith, c.own_parts-own.ensures.patterns.end, c.own_parts-own.ensures.patterns.within, c.well_formed)

pub slice_bounds-fill-start-2 : goal.slice_bounds-fill-start-2
slice_bounds-fill-start-2 c = omega (arith, c.own_parts-own.ensures.patterns.end, c.own_parts-own.ensures.patterns.within, c.well_formed)

pub slice_bounds-fill-end-2 : goal.slice_bounds-fill-end-2
slice_bounds-fill-end-2 c = omega (arith, c.own_parts-own.ensures.patterns.end, c.own_parts-own.ensures.patterns.within, c.well_formed)

pub offset_bounds-trees-own : goal.offset_bounds-trees-own
offset_bounds-trees-own c = omega (arith, c.own_parts-own.ensures.trees.end, c.own_parts-own.ensures.trees.within, c.well_formed)

pub slice_bounds-fill-count-3 : goal.slice_bounds-fill-count-3
slice_bounds-fill-count-3 c = omega (arith, c.own_parts-own.ensures.trees.end, c.own_parts-own.ensures.trees.within, c.well_formed)

pub slice_bounds-fill-start-3 : goal.slice_bounds-fill-start-3
slice_bounds-fill-start-3 c = omega (arith, c.own_parts-own.ensures.trees.end, c.own_parts-own.ensures.trees.within, c.well_formed)

pub slice_bounds-fill-end-3 : goal.slice_bounds-fill-end-3
slice_bounds-fill-end-3 c = omega (arith, c.own_parts-own.ensures.trees.end, c.own_parts-own.ensures.trees.within, c.well_formed)

pub offset_bounds-records-own : goal.offset_bounds-records-own
offset_bounds-records-own c = omega (arith, c.own_parts-own.ensures.records.end, c.own_parts-own.ensures.records.within, c.well_formed)

pub slice_bounds-fill-count-4 : goal.slice_bounds-fill-count-4
slice_bounds-fill-count-4 c = omega (arith, c.own_parts-own.ensures.records.end, c.own_parts-own.ensures.records.within, c.well_formed)

pub slice_bounds-fill-start-4 : goal.slice_bounds-fill-start-4
slice_bounds-fill-start-4 c = omega (arith, c.own_parts-own.ensures.records.end, c.own_parts-own.ensures.records.within, c.well_formed)

pub slice_bounds-fill-end-4 : goal.slice_bounds-fill-end-4
slice_bounds-fill-end-4 c = omega (arith, c.own_parts-own.ensures.records.end, c.own_parts-own.ensures.records.within, c.well_formed)

pub offset_bounds-values-own : goal.offset_bounds-values-own
offset_bounds-values-own c = omega (arith, c.own_parts-own.ensures.values.end, c.own_parts-own.ensures.values.within, c.well_formed)

pub slice_bounds-fill-count-5 : goal.slice_bounds-fill-count-5
slice_bounds-fill-count-5 c = omega (arith, c.own_parts-own.ensures.values.end, c.own_parts-own.ensures.values.within, c.well_formed)

pub slice_bounds-fill-start-5 : goal.slice_bounds-fill-start-5
slice_bounds-fill-start-5 c = omega (arith, c.own_parts-own.ensures.values.end, c.own_parts-own.ensures.values.within, c.well_formed)

pub slice_bounds-fill-end-5 : goal.slice_bounds-fill-end-5
slice_bounds-fill-end-5 c = omega (arith, c.own_parts-own.ensures.values.end, c.own_parts-own.ensures.values.within, c.well_formed)

pub fill-requires : goal.fill-requires
fill-requires c =
    let a = c.args in
    let h = c.requires in
    let k = need_cuts c.args.p c.need.ensures c.own_parts-own.ensures in
    (h.0, parts_room (side_of a.top) a.d.now a.p a.questions.now a.patterns.now a.trees.now a.records.now a.values.now a.work.now k.0 k.1 k.2 k.3 k.4 h.1.lines)

pub shape_of-questions : goal.shape_of-questions
shape_of-questions c = search (same_len_mid, c.fill.auto.questions)

pub shape_of-patterns : goal.shape_of-patterns
shape_of-patterns c = search (same_len_mid, c.fill.auto.patterns)

pub shape_of-trees : goal.shape_of-trees
shape_of-trees c = search (same_len_mid, c.fill.auto.trees)

pub shape_of-records : goal.shape_of-records
shape_of-records c = search (same_len_mid, c.fill.auto.records)

pub shape_of-values : goal.shape_of-values
shape_of-values c = search (same_len_mid, c.fill.auto.values)

pub returns : goal.returns
returns c =
    let a = c.args in
    let f = c.fill in
    let k = need_cuts c.args.p c.need.ensures c.own_parts-own.ensures in
    own_filled (side_of a.top) a.d.now a.p a.questions.now a.patterns.now a.trees.now a.records.now a.values.now a.work.now
    k.0 k.1 k.2 k.3 k.4
    f.ensures f.auto.questions f.auto.patterns f.auto.trees f.auto.records f.auto.values
