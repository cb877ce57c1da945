-- `house_own::judge_own`: four parts, each the rows of the task, lent in one call; the pattern rows come back as they were.
use native.Mathlib.Omega.{arith}
use Rattle.load_bounds.specs.Bounds.{side_of}
use Rattle.house_own.proofs.Laws.{own_loaded, own_rule, own_back}
use Rattle.house_own.proofs.judge_own.Goals as goal

pub own_part-q-requires : goal.own_part-q-requires
own_part-q-requires c = (omega arith, c.requires.question_rows)

pub own_part-a-requires : goal.own_part-a-requires
own_part-a-requires c = (omega arith, c.requires.pattern_rows)

pub own_part-t-requires : goal.own_part-t-requires
own_part-t-requires c = (omega arith, c.requires.tree_rows)

pub own_part-v-requires : goal.own_part-v-requires
own_part-v-requires c = (omega arith, omega (arith, c.requires.value_rows))

pub offset_bounds-questions-q_from : goal.offset_bounds-questions-q_from
offset_bounds-questions-q_from c = omega (arith, c.own_part-q.ensures.end, c.own_part-q.ensures.within, c.well_formed)

pub slice_bounds-judge_model-count : goal.slice_bounds-judge_model-count
slice_bounds-judge_model-count c = omega (arith, c.own_part-q.ensures.end, c.own_part-q.ensures.within, c.well_formed)

pub slice_bounds-judge_model-start : goal.slice_bounds-judge_model-start
slice_bounds-judge_model-start c = omega (arith, c.own_part-q.ensures.end, c.own_part-q.ensures.within, c.well_formed)

pub slice_bounds-judge_model-end : goal.slice_bounds-judge_model-end
slice_bounds-judge_model-end c = omega (arith, c.own_part-q.ensures.end, c.own_part-q.ensures.within, c.well_formed)

pub offset_bounds-patterns-a_from : goal.offset_bounds-patterns-a_from
offset_bounds-patterns-a_from c = omega (arith, c.own_part-a.ensures.end, c.own_part-a.ensures.within, c.well_formed)

pub slice_bounds-judge_model-count-2 : goal.slice_bounds-judge_model-count-2
slice_bounds-judge_model-count-2 c = omega (arith, c.own_part-a.ensures.end, c.own_part-a.ensures.within, c.well_formed)

pub slice_bounds-judge_model-start-2 : goal.slice_bounds-judge_model-start-2
slice_bounds-judge_model-start-2 c = omega (arith, c.own_part-a.ensures.end, c.own_part-a.ensures.within, c.well_formed)

pub slice_bounds-judge_model-end-2 : goal.slice_bounds-judge_model-end-2
slice_bounds-judge_model-end-2 c = omega (arith, c.own_part-a.ensures.end, c.own_part-a.ensures.within, c.well_formed)

pub offset_bounds-trees-t_from : goal.offset_bounds-trees-t_from
offset_bounds-trees-t_from c = omega (arith, c.own_part-t.ensures.end, c.own_part-t.ensures.within, c.well_formed)

pub slice_bounds-judge_model-count-3 : goal.slice_bounds-judge_model-count-3
slice_bounds-judge_model-count-3 c = omega (arith, c.own_part-t.ensures.end, c.own_part-t.ensures.within, c.well_formed)

pub slice_bounds-judge_model-start-3 : goal.slice_bounds-judge_model-start-3
slice_bounds-judge_model-start-3 c = omega (arith, c.own_part-t.ensures.end, c.own_part-t.ensures.within, c.well_formed)

pub slice_bounds-judge_model-end-3 : goal.slice_bounds-judge_model-end-3
slice_bounds-judge_model-end-3 c = omega (arith, c.own_part-t.ensures.end, c.own_part-t.ensures.within, c.well_formed)

pub offset_bounds-values-v_from : goal.offset_bounds-values-v_from
offset_bounds-values-v_from c = omega (arith, c.own_part-v.ensures.end, c.own_part-v.ensures.within, c.well_formed)

pub slice_bounds-judge_model-count-4 : goal.slice_bounds-judge_model-count-4
slice_bounds-judge_model-count-4 c = omega (arith, c.own_part-v.ensures.end, c.own_part-v.ensures.within, c.well_formed)

pub slice_bounds-judge_model-start-4 : goal.slice_bounds-judge_model-start-4
slice_bounds-judge_model-start-4 c = omega (arith, c.own_part-v.ensures.end, c.own_part-v.ensures.within, c.well_formed)

pub slice_bounds-judge_model-end-4 : goal.slice_bounds-judge_model-end-4
slice_bounds-judge_model-end-4 c = omega (arith, c.own_part-v.ensures.end, c.own_part-v.ensures.within, c.well_formed)

pub judge_model-requires : goal.judge_model-requires
judge_model-requires c = let a = c.args in own_loaded (side_of a.top) a.d.now a.p a.questions.now a.patterns.now a.trees.now a.values.now c.requires c.own_part-a.ensures c.own_part-t.ensures

pub returns : goal.returns
returns c =
    let a = c.args in
    let h = c.requires in
    let x = side_of a.top in (
      own_rule x a.d.now a.p a.questions.now a.patterns.now a.trees.now a.values.now h c.own_part-a.ensures c.own_part-t.ensures
          c.own_part-q.ensures c.own_part-v.ensures c.judge_model.ensures.0,
      own_back x a.d.now a.p a.questions.now a.patterns.now a.trees.now a.values.now h c.own_part-a.ensures c.own_part-t.ensures c.judge_model.ensures.1,
    )
