-- `trail_load::fill_tree`: the text's rows, then the entries, or zeros.
use native.Mathlib.Omega.{arith}
use lib.ListN.{length}
use Rattle.load_model.specs.Load.{lent}
use Rattle.trail_load.proofs.Laws.{text_fits, values_room, small_values, fill_done, fill_zero}
use Rattle.trail_load.proofs.fill_tree.Goals as goal

pub fill_one-linked-requires : goal.fill_one-linked-requires
fill_one-linked-requires c =
    let a = c.args in
    let h = c.requires in
    text_fits a.d.now a.p h.0 (length a.questions.now) (length a.patterns.now) (length a.trees.now) (length a.records.now) (length a.values.now) (length a.work.now) h.1 c.up_to.ensures

pub answer-loaded-requires : goal.answer-loaded-requires
answer-loaded-requires c =
    let a = c.args in
    let h = c.requires in
    small_values a.d.now a.p h.0 (omega (arith, c.well_formed))

pub fill_entries-requires : goal.fill_entries-requires
fill_entries-requires c =
    let a = c.args in
    let h = c.requires in
    values_room a.d.now a.p h.0 (length a.questions.now) (length a.patterns.now) (length a.trees.now) (length a.records.now) (length a.values.now) (length a.work.now) h.1 c.up_to-then-all_linked.ensures c.fill_one-linked.auto.trees

pub returns-then-all_linked : goal.returns-then-all_linked
returns-then-all_linked c =
    let a = c.args in
    let h = c.requires in
    fill_done a.d.now a.k a.p (lent a.questions.now a.patterns.now a.trees.now a.records.now a.values.now a.work.now) c.up_to.ensures c.fill_one-linked.ensures c.answer-loaded.ensures c.all_linked.ensures c.if-all_linked.true c.up_to-then-all_linked.ensures c.fill_entries.ensures

pub returns-else-all_linked : goal.returns-else-all_linked
returns-else-all_linked c =
    let a = c.args in
    let h = c.requires in
    fill_zero a.d.now a.k a.p (lent a.questions.now a.patterns.now a.trees.now a.records.now a.values.now a.work.now) c.up_to.ensures c.fill_one-linked.ensures c.answer-loaded.ensures c.all_linked.ensures c.if-all_linked.false c.zero.ensures
