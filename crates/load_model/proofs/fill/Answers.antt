-- `load_model::fill`: the text's rows, then the block's, or zeros.
use native.Mathlib.Omega.{arith}
use lib.ListN.{length}
use Rattle.load_model.specs.Load.{lent}
use Rattle.load_model.proofs.Laws.{text_fits, block_fits, small_values, fill_done, fill_zero}
use Rattle.load_model.proofs.fill.Goals as goal

pub fill_text-linked-requires : goal.fill_text-linked-requires
fill_text-linked-requires c =
    let a = c.args in
    let p = a.p in
    let h = c.requires in
    text_fits a.d.now p h.0 (length a.questions.now) (length a.patterns.now) (length a.trees.now) (length a.records.now) (length a.values.now) (length a.work.now) h.1 c.up_to.ensures

pub answer-loaded-requires : goal.answer-loaded-requires
answer-loaded-requires c = let a = c.args in small_values a.d.now a.p c.requires.0 (omega (arith, c.well_formed))

pub fill_block-requires : goal.fill_block-requires
fill_block-requires c =
    let a = c.args in
    let p = a.p in
    let h = c.requires in
    block_fits a.d.now p h.0 (length a.questions.now) (length a.patterns.now) (length a.trees.now) (length a.records.now) (length a.values.now) (length a.work.now) h.1 c.up_to-then-all_linked.ensures c.fill_text-linked.auto.trees

pub returns-then-all_linked : goal.returns-then-all_linked
returns-then-all_linked c =
    let a = c.args in
    fill_done a.d.now a.p (lent a.questions.now a.patterns.now a.trees.now a.records.now a.values.now a.work.now) c.up_to.ensures c.fill_text-linked.ensures c.answer-loaded.ensures c.all_linked.ensures c.if-all_linked.true c.up_to-then-all_linked.ensures c.fill_block.ensures

pub returns-else-all_linked : goal.returns-else-all_linked
returns-else-all_linked c =
    let a = c.args in
    fill_zero a.d.now a.p (lent a.questions.now a.patterns.now a.trees.now a.records.now a.values.now a.work.now) c.up_to.ensures c.fill_text-linked.ensures c.answer-loaded.ensures c.all_linked.ensures c.if-all_linked.false c.zero.ensures
