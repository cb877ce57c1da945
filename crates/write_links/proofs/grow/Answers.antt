-- `write_links::grow`: the trees that are left say what all say.
use Rattle.write_links.proofs.Ways.{tree_room, growing_off, growing_on, growing_end}
use Rattle.write_links.specs.Tests.{grown}
use borrow.Author.Tests.{not-true, not-false}
use mathlib.Core.Path.{sym, ap, ◌∙◌}
use native.Mathlib.Omega.{arith}
use Rattle.write_links.proofs.grow.Goals as goal

pub returns-then-not-tree_in : goal.returns-then-not-tree_in
returns-then-not-tree_in c = growing_off c.args.trees.now c.args.records.now c.tree_rows-n.result c.loop-t.t c.loop-t.k c.loop-t.invariant c.loop-t-test.true (sym c.tree_in.ensures ∙ not-true _ c.if-not-tree_in.true-raw) ∙ ap (grown c.args.trees.now c.args.records.now 0 0) c.tree_rows-n.ensures

pub overflow_add-k : goal.overflow_add-k
overflow_add-k c = omega (arith, c.tree_records-k.ensures, tree_room c.args.trees.now c.args.records.now c.loop-t.k c.loop-t.t (sym c.tree_in.ensures ∙ not-false _ c.if-not-tree_in.false-raw), c.well_formed)

pub loop-t-preserved : goal.loop-t-preserved
loop-t-preserved c = growing_on c.args.trees.now c.args.records.now c.tree_rows-n.result c.loop-t.t c.loop-t.k c.loop-t.invariant c.loop-t-test.true (sym c.tree_in.ensures ∙ not-false _ c.if-not-tree_in.false-raw) c.tree_records-k.ensures

pub returns : goal.returns
returns c = growing_end c.args.trees.now c.args.records.now c.tree_rows-n.result c.loop-t.t c.loop-t.k c.loop-t.invariant c.loop-t-test.false c.record_rows.ensures ∙ ap (grown c.args.trees.now c.args.records.now 0 0) c.tree_rows-n.ensures
