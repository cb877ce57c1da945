-- `load_trees::fill_trees`: what is left, stored, gives the tables with all trees.
use native.Mathlib.Omega.{arith}
use lib.ListN.{length}
use Rattle.load_trees.proofs.Loop.{filling_none, tree_whole, tree_room, same_lengths, filling_on, filling_ends}
use Rattle.load_trees.proofs.fill_trees.Goals as goal

pub loop-next-init : goal.loop-next-init
loop-next-init c =
    let a = c.args in
    let p = c.requires in
    filling_none a.s.now a.questions.now (length a.index.now) a.at a.trees.now a.records.now a.work.now p.through p.at_in_bounds.0 p.at_in_bounds.1 p.at_in_bounds.2

pub fill_tree-t-requires : goal.fill_tree-t-requires
fill_tree-t-requires c =
    let a = c.args in
    let l = c.loop-next in
    record { index = c.requires.index; whole = tree_whole a.s.now a.questions.now (length a.index.now) a.at a.trees.now a.records.now a.work.now l.trees l.records l.work l.i l.row l.first l.invariant; row_in_bounds = tree_room a.s.now a.questions.now (length a.index.now) a.at a.trees.now a.records.now a.work.now l.trees l.records l.work l.i l.row l.first l.invariant }

pub overflow_add-first : goal.overflow_add-first
overflow_add-first c =
    let a = c.args in
    let l = c.loop-next in
    omega (arith, (filling_on a.s.now a.questions.now (length a.index.now) a.at a.trees.now a.records.now a.work.now l.trees l.records l.work l.i l.row l.first l.invariant c.fill_tree-t.ensures c.what_follows.ensures c.in-Tree.is).0.room_records, c.well_formed)

pub overflow_add-row : goal.overflow_add-row
overflow_add-row c =
    let a = c.args in
    let l = c.loop-next in
    omega (arith, (tree_room a.s.now a.questions.now (length a.index.now) a.at a.trees.now a.records.now a.work.now l.trees l.records l.work l.i l.row l.first l.invariant).0, c.well_formed)

pub loop-next-smaller : goal.loop-next-smaller
loop-next-smaller c =
    let a = c.args in
    let l = c.loop-next in
    omega (arith, (filling_on a.s.now a.questions.now (length a.index.now) a.at a.trees.now a.records.now a.work.now l.trees l.records l.work l.i l.row l.first l.invariant c.fill_tree-t.ensures c.what_follows.ensures c.in-Tree.is).1, (filling_on a.s.now a.questions.now (length a.index.now) a.at a.trees.now a.records.now a.work.now l.trees l.records l.work l.i l.row l.first l.invariant c.fill_tree-t.ensures c.what_follows.ensures c.in-Tree.is).2)

pub loop-next-preserved : goal.loop-next-preserved
loop-next-preserved c =
    let a = c.args in
    let l = c.loop-next in
    (filling_on a.s.now a.questions.now (length a.index.now) a.at a.trees.now a.records.now a.work.now l.trees l.records l.work l.i l.row l.first l.invariant c.fill_tree-t.ensures c.what_follows.ensures c.in-Tree.is).0

pub shape_of-trees-in-End : goal.shape_of-trees-in-End
shape_of-trees-in-End c =
    let a = c.args in
    let l = c.loop-next in
    (same_lengths a.s.now a.questions.now (length a.index.now) a.at a.trees.now a.records.now a.work.now l.trees l.records l.work l.i l.row l.first l.invariant c.fill_tree-t.ensures).0

pub shape_of-records-in-End : goal.shape_of-records-in-End
shape_of-records-in-End c =
    let a = c.args in
    let l = c.loop-next in
    (same_lengths a.s.now a.questions.now (length a.index.now) a.at a.trees.now a.records.now a.work.now l.trees l.records l.work l.i l.row l.first l.invariant c.fill_tree-t.ensures).1

pub shape_of-work-in-End : goal.shape_of-work-in-End
shape_of-work-in-End c =
    let a = c.args in
    let l = c.loop-next in
    (same_lengths a.s.now a.questions.now (length a.index.now) a.at a.trees.now a.records.now a.work.now l.trees l.records l.work l.i l.row l.first l.invariant c.fill_tree-t.ensures).2

pub returns-in-End : goal.returns-in-End
returns-in-End c =
    let a = c.args in
    let l = c.loop-next in
    filling_ends a.s.now a.questions.now (length a.index.now) a.at a.trees.now a.records.now a.work.now l.trees l.records l.work l.i l.row l.first l.invariant c.fill_tree-t.ensures c.what_follows.ensures c.in-End.is
