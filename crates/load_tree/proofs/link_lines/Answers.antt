-- `load_tree::link_lines`: the part of the records that the tree has, linked.
use Rattle.std.proofs.lemmas.Result.{err_from_is_err_and}
use mathlib.Core.Path.{refl, sym, ap, ◌∙◌}
use Rattle.load_tree.specs.Bodies.{link_ends}
use Rattle.load_tree.proofs.Laws.{linked_part, part_length}
use Rattle.load_tree.proofs.link_lines.Goals as goal

pub returns : goal.returns
returns c =
    let a = c.args in
    let p = linked_part a.work.now a.lines a.needed a.records.now a.first c.requires.2 _ refl (part_length a.work.now a.lines a.needed a.records.now a.first c.requires.2) c.link_tree.auto.rows c.link_tree.ensures in
    (ap (link_ends a.lines a.needed) (sym c.in_ok-link_tree.was) ∙ p.0, p.1)

pub returns-in_err-link_tree : goal.returns-in_err-link_tree
returns-in_err-link_tree c =
    let e = err_from_is_err_and c.from_residual.result c.from_residual.ensures.1 in
    let a = c.args in
    let p = linked_part a.work.now a.lines a.needed a.records.now a.first c.requires.2 _ refl (part_length a.work.now a.lines a.needed a.records.now a.first c.requires.2) c.link_tree.auto.rows c.link_tree.ensures in
    (rw (e.1, e.2) (ap (link_ends a.lines a.needed) (sym c.in_err-link_tree.was) ∙ p.0), p.1)
