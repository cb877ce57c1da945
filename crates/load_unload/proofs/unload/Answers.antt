-- `load_unload::unload`: zeros in the rows of each table.
use native.Mathlib.Omega.{arith}
use Rattle.written.specs.Sharing.{questions, patterns, trees, records, values}
use Rattle.load_bounds.specs.Bounds.{side_of, held_of}
use Rattle.load_bounds.proofs.Laws.{stood, not_stood, stood_rows}
use Rattle.load_unload.proofs.Laws.{cleared_is, unload_not, unload_done}
use Rattle.load_unload.proofs.unload.Goals as goal

pub returns-then-not-stand : goal.returns-then-not-stand
returns-then-not-stand c =
    let a = c.args in
    unload_not (side_of a.top) (held_of a.mine) (held_of a.other) a.questions.now a.patterns.now a.trees.now a.records.now a.values.now (not_stood (held_of a.mine) (held_of a.other) a.questions.now a.patterns.now a.trees.now a.records.now a.values.now c.stand.ensures c.if-not-stand.true-raw)

pub own_parts-own-requires : goal.own_parts-own-requires
own_parts-own-requires c =
    let a = c.args in
    let s = stood_rows (held_of a.mine) (held_of a.other) a.questions.now a.patterns.now a.trees.now a.records.now a.values.now c.stand.ensures c.if-not-stand.false-raw in
    record {
      questions = omega (arith, s questions, c.well_formed);
      patterns = omega (arith, s patterns, c.well_formed);
      trees = omega (arith, s trees, c.well_formed);
      records = omega (arith, s records, c.well_formed);
      values = omega (arith, s values, c.well_formed);
    }

pub returns : goal.returns
returns c =
    let a = c.args in
    let x = side_of a.top in
    unload_done x (held_of a.mine) (held_of a.other) a.questions.now a.patterns.now a.trees.now a.records.now a.values.now (stood (held_of a.mine) (held_of a.other) a.questions.now a.patterns.now a.trees.now a.records.now a.values.now c.stand.ensures c.if-not-stand.false-raw)
    (record {
      questions = cleared_is x 4 a.questions.now a.mine.questions _ _ c.own_parts-own.ensures.questions c.clear.ensures;
      patterns = cleared_is x 2 a.patterns.now a.mine.patterns _ _ c.own_parts-own.ensures.patterns c.clear-2.ensures;
      trees = cleared_is x 6 a.trees.now a.mine.trees _ _ c.own_parts-own.ensures.trees c.clear-3.ensures;
      records = cleared_is x 4 a.records.now a.mine.records _ _ c.own_parts-own.ensures.records c.clear-4.ensures;
      values = cleared_is x 1 a.values.now a.mine.values _ _ c.own_parts-own.ensures.values c.clear-5.ensures;
    })
