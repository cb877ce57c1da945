-- `walk::walk`: no such tree, or the walk over its records.
use mathlib.Core.Path.{◌≡◌, sym, ◌∙◌}
use mathlib.Core.Bool.{true}
use borrow.Author.Tests.{not-true, not-false, ltb-true}
use Rattle.table_rows.specs.Rows.{tree_there}
use Rattle.walk.proofs.Following.{walk_there, walk_missing}
use Rattle.walk.proofs.walk.Goals.{Else-not-tree_there}
use Rattle.walk.proofs.walk.Goals as goal

there : (c : Else-not-tree_there) → let a = c.args in tree_there a.trees.now a.tree ≡ true
there c = sym c.tree_there.ensures ∙ not-false _ c.if-not-tree_there.false-raw

pub returns-then-not-tree_there : goal.returns-then-not-tree_there
returns-then-not-tree_there c =
    let a = c.args in
    walk_missing a.trees.now a.records.now a.tree a.answers.now a.limit (sym c.tree_there.ensures ∙ not-true _ c.if-not-tree_there.true-raw)

pub tree_first-requires : goal.tree_first-requires
tree_first-requires c = ltb-true _ _ (there c)

pub tree_records-requires : goal.tree_records-requires
tree_records-requires c = ltb-true _ _ (there (goal.at.tree_records-requires c).Else-not-tree_there)

pub returns : goal.returns
returns c =
    let a = c.args in
    walk_there a.trees.now a.records.now a.tree a.answers.now a.limit (there (goal.at.returns c).Else-not-tree_there) c.tree_first.ensures c.tree_records.ensures c.follow.ensures
