-- `label_match::after_star`: what is behind j matches some end of the label from i on exactly where the whole does.
use native.Mathlib.Omega.{arith}
use Rattle.label_match.proofs.Laws.{behind_none, behind_last, behind_nowhere, behind_more, part-plain}
use Rattle.label_match.proofs.after_star.Goals as goal

pub loop-from-init : goal.loop-from-init
loop-from-init c = behind_none _ _ _ _ c.requires.0 c.requires.1

pub part_end-end-requires : goal.part_end-end-requires
part_end-end-requires c = c.loop-from.invariant.in_a_pattern

pub slice_bounds-stands_last-count : goal.slice_bounds-stands_last-count
slice_bounds-stands_last-count c = c.part_end-end.ensures.order

pub slice_bounds-stands_last-start : goal.slice_bounds-stands_last-start
slice_bounds-stands_last-start c = c.part_end-end.ensures.order

pub slice_bounds-stands_last-end : goal.slice_bounds-stands_last-end
slice_bounds-stands_last-end c = c.part_end-end.ensures.inside

pub stands_last-requires : goal.stands_last-requires
stands_last-requires c = (c.loop-from.invariant.in_label, part-plain c.part_end-end.ensures)

pub returns-then-end-pattern : goal.returns-then-end-pattern
returns-then-end-pattern c = behind_last _ _ _ _ _ _ c.loop-from.invariant c.part_end-end.ensures c.if-end-pattern.true c.stands_last.ensures

pub slice_bounds-find-count : goal.slice_bounds-find-count
slice_bounds-find-count c = c.part_end-end.ensures.order

pub slice_bounds-find-start : goal.slice_bounds-find-start
slice_bounds-find-start c = c.part_end-end.ensures.order

pub slice_bounds-find-end : goal.slice_bounds-find-end
slice_bounds-find-end c = c.part_end-end.ensures.inside

pub find-requires : goal.find-requires
find-requires c = c.loop-from.invariant.in_label

pub overflow_sub-i : goal.overflow_sub-i
overflow_sub-i c = c.part_end-end.ensures.order

pub overflow_add-i : goal.overflow_add-i
overflow_add-i c = let h = behind_more _ _ _ _ _ _ c.loop-from.invariant c.part_end-end.ensures (omega (arith, c.part_end-end.ensures.inside, c.if-end-pattern.false)) c.find.ensures c.in-Some.is in omega (arith, h.in_label)

pub overflow_add-j : goal.overflow_add-j
overflow_add-j c = let h = behind_more _ _ _ _ _ _ c.loop-from.invariant c.part_end-end.ensures (omega (arith, c.part_end-end.ensures.inside, c.if-end-pattern.false)) c.find.ensures c.in-Some.is in omega (arith, h.in_a_pattern)

pub loop-from-smaller : goal.loop-from-smaller
loop-from-smaller c = omega (arith, c.part_end-end.ensures.inside, c.if-end-pattern.false, c.part_end-end.ensures.order)

pub loop-from-preserved : goal.loop-from-preserved
loop-from-preserved c = behind_more _ _ _ _ _ _ c.loop-from.invariant c.part_end-end.ensures (omega (arith, c.part_end-end.ensures.inside, c.if-end-pattern.false)) c.find.ensures c.in-Some.is

pub returns-in-None : goal.returns-in-None
returns-in-None c =
    behind_nowhere _ _ _ _ _ _ c.loop-from.invariant c.part_end-end.ensures (omega (arith, c.part_end-end.ensures.inside, c.if-end-pattern.false)) c.find.ensures c.in-None.is
