-- `load_trees::fill_body`: each head by its own reader.
use lib.ListN.{length}
use mathlib.Core.Path.{refl}
use Rattle.load_trees.proofs.Laws.{by_head, empty_head, no_head, whole_lines, room_by}
use native.Mathlib.Omega.{arith}
use Rattle.load_trees.proofs.fill_body.Goals as goal

pub fill_leaf-requires : goal.fill_leaf-requires
fill_leaf-requires c =
    let a = c.args in
    omega (arith, (room_by a.s.now a.first (length a.records.now) (length a.work.now) c.in-Lone.is c.requires.head_in_bounds).0)

pub fill_braces-requires : goal.fill_braces-requires
fill_braces-requires c =
    let a = c.args in
    record { index = c.requires.index; at_value = whole_lines a.s.now c.requires.whole c.in-Lines.is; at_in_bounds = room_by a.s.now a.first (length a.records.now) (length a.work.now) c.in-Lines.is c.requires.head_in_bounds }

pub returns-in-Lone : goal.returns-in-Lone
returns-in-Lone c = let a = c.args in by_head a.s.now a.questions.now (length a.index.now) a.first a.records.now a.work.now c.in-Lone.is (c.fill_leaf.ensures.0, refl, c.fill_leaf.ensures.1, refl)

pub returns-in-Empty : goal.returns-in-Empty
returns-in-Empty c = let a = c.args in empty_head a.s.now a.questions.now (length a.index.now) a.first a.records.now a.work.now c.in-Empty.is

pub returns-in-Lines : goal.returns-in-Lines
returns-in-Lines c = let a = c.args in by_head a.s.now a.questions.now (length a.index.now) a.first a.records.now a.work.now c.in-Lines.is c.fill_braces.ensures

pub returns-in-NoTree : goal.returns-in-NoTree
returns-in-NoTree c = let a = c.args in no_head a.s.now a.questions.now (length a.index.now) a.first a.records.now a.work.now c.in-NoTree.is
