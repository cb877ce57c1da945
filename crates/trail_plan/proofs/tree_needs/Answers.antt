-- `trail_plan::tree_needs`: the record, the rows, the model that is chosen, and the tree in the record's data.
use mathlib.Core.Path.{sym, ◌∙◌}
use Rattle.std.proofs.lemmas.Result.{err_from_is_err_and}
use native.Mathlib.Omega.{arith}
use lib.ListN.{length}
use borrow.Author.Tests.{not-true, not-false}
use Rattle.head_record_fits.proofs.Fits.{fits}
use Rattle.head_words.specs.Words.{header_at}
use Rattle.trail_find.specs.Rows.{offsets_at}
use Rattle.trail_plan.proofs.Laws.{row_of, rows_inside, needs_unfit, needs_no_rows, needs_refused, needs_tree}
use Rattle.trail_plan.proofs.tree_needs.Goals as goal

pub returns-then-not-record_fits : goal.returns-then-not-record_fits
returns-then-not-record_fits c = let a = c.args in needs_unfit a.file.now (header_at a.words.now) a.which a.model a.k (sym c.record_fits.ensures ∙ not-true _ c.if-not-record_fits.true-raw)

pub find_trail-requires : goal.find_trail-requires
unfolding header_at
find_trail-requires c = let a = c.args in omega (arith, (fits (length a.file.now) (header_at a.words.now) (sym c.record_fits.ensures ∙ not-false _ c.if-not-record_fits.false-raw)).data_inside)

pub count_offsets-requires : goal.count_offsets-requires
unfolding header_at
count_offsets-requires c = rows_inside _ _ (sym c.in_ok-trail.was ∙ c.find_trail.ensures)

pub find_offset-requires : goal.find_offset-requires
unfolding header_at
find_offset-requires c = rows_inside _ _ (sym c.in_ok-trail.was ∙ c.find_trail.ensures)

pub plan_tree-requires : goal.plan_tree-requires
plan_tree-requires c = let a = c.args in row_of (offsets_at a.file.now a.model _ _) a.k c.count_offsets.ensures c.find_offset.ensures

pub returns-in_err-trail : goal.returns-in_err-trail
unfolding header_at
returns-in_err-trail c =
    let a = c.args in
    let p = err_from_is_err_and c.from_residual.result c.from_residual.ensures.1 in
    rw (p.1, p.2)
    (needs_no_rows a.file.now (header_at a.words.now) a.which a.model a.k (sym c.record_fits.ensures ∙ not-false _ c.if-not-record_fits.false-raw) (sym c.in_err-trail.was ∙ c.find_trail.ensures))

pub returns-in_err-chosen : goal.returns-in_err-chosen
unfolding header_at
returns-in_err-chosen c =
    let a = c.args in
    let p = err_from_is_err_and c.from_residual-in_err-chosen.result c.from_residual-in_err-chosen.ensures.1 in
    rw (p.1, p.2)
    (needs_refused a.file.now (header_at a.words.now) a.which a.model a.k (sym c.record_fits.ensures ∙ not-false _ c.if-not-record_fits.false-raw) (sym c.in_ok-trail.was ∙ c.find_trail.ensures) (sym c.in_err-chosen.was ∙ c.choose.ensures))

pub returns : goal.returns
unfolding header_at
returns c =
    let a = c.args in
    needs_tree a.file.now (header_at a.words.now) a.which a.model a.k (sym c.record_fits.ensures ∙ not-false _ c.if-not-record_fits.false-raw) (sym c.in_ok-trail.was ∙ c.find_trail.ensures) (sym c.in_ok-chosen.was ∙ c.choose.ensures) c.data_of.ensures c.count_offsets.ensures c.find_offset.ensures c.plan_tree.ensures
