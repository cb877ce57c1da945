-- `load_shared::load_planned`: refused for want of room, or filled.
use native.Mathlib.Omega.{arith}
use Rattle.load_model.specs.Load.{lent}
use Rattle.load_model.proofs.Laws.{small_values}
use Rattle.load_bounds.specs.Bounds.{side_of, held_of}
use Rattle.load_shared.proofs.Laws.{load_no_rows, load_no_lines, load_filled, load_fits}
use Rattle.load_shared.proofs.load_planned.Goals as goal

pub need-requires : goal.need-requires
need-requires c =
    let a = c.args in
    small_values a.d.now a.p c.requires (omega (arith, c.well_formed))

pub returns-then-not-stand : goal.returns-then-not-stand
returns-then-not-stand c =
    let a = c.args in
    load_no_rows (side_of a.top) a.d.now a.p (held_of a.other) (lent a.questions.now a.patterns.now a.trees.now a.records.now a.values.now a.work.now) c.need.result c.need.ensures c.stand.ensures c.if-not-stand.true-raw

pub returns-then-work-p : goal.returns-then-work-p
returns-then-work-p c =
    let a = c.args in
    load_no_lines (side_of a.top) a.d.now a.p (held_of a.other) (lent a.questions.now a.patterns.now a.trees.now a.records.now a.values.now a.work.now) c.need.result c.need.ensures c.stand.ensures c.if-not-stand.false-raw c.if-work-p.true

pub fill_own-requires : goal.fill_own-requires
fill_own-requires c =
    let a = c.args in
    (c.requires, load_fits (side_of a.top) a.d.now a.p (held_of a.other) (lent a.questions.now a.patterns.now a.trees.now a.records.now a.values.now a.work.now) c.need.result c.need.ensures c.stand.ensures c.if-not-stand.false-raw c.if-work-p.false)

pub returns : goal.returns
returns c =
    let a = c.args in
    load_filled (side_of a.top) a.d.now a.p (held_of a.other) (lent a.questions.now a.patterns.now a.trees.now a.records.now a.values.now a.work.now) c.need.result c.need.ensures c.stand.ensures c.if-not-stand.false-raw c.if-work-p.false c.fill_own.ensures
