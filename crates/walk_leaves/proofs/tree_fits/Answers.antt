-- `walk_leaves::tree_fits`: values that stand outside, or by the records.
use borrow.Author.Tests.{not-true, not-false}
use Rattle.walk_leaves.proofs.Judged.{no_values, by_records}
use Rattle.walk_leaves.proofs.tree_fits.Goals as goal

pub returns-then-not-values_fit : goal.returns-then-not-values_fit
returns-then-not-values_fit c =
    let a = c.args in
    no_values a.questions.now a.trees.now a.records.now a.values.now a.width a.t c.tree_entries-entries.ensures c.tree_value.ensures c.values_fit.ensures (not-true _ c.if-not-values_fit.true-raw)

pub returns : goal.returns
returns c =
    let a = c.args in
    by_records a.questions.now a.trees.now a.records.now a.values.now a.width a.t c.tree_entries-entries.ensures c.tree_value.ensures c.values_fit.ensures (not-false _ c.if-not-values_fit.false-raw) c.tree_first.ensures c.tree_records.ensures c.records_fit.ensures
