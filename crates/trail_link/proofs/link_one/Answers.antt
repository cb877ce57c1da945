-- `trail_link::link_one`: the tree is linked by the words of the text's questions and the index of their names.
use mathlib.Core.Path.{refl, ap, ◌∙◌}
use native.Mathlib.Omega.{arith}
use lib.Seq.{sets}
use Rattle.load_text.specs.Text.{name_index}
use Rattle.load_text.proofs.Laws.{index_room, asked_words, index_count, is_index}
use Rattle.trail_link.proofs.Laws.{asked_of, ended_as, row_as, records_as, work_as}
use Rattle.trail_link.proofs.link_one.Goals as goal

pub index_names-requires : goal.index_names-requires
index_names-requires c = index_room _ _ _ (asked_of c.requires)

pub slice_bounds-fill_tree-end-2 : goal.slice_bounds-fill_tree-end-2
slice_bounds-fill_tree-end-2 c = omega (arith, index_room _ _ _ (asked_of c.requires), c.index_names.auto.patterns)

pub fill_tree-t-requires : goal.fill_tree-t-requires
fill_tree-t-requires c =
    let a = c.args in
    let h = c.requires in
    let p = c.index_names.ensures in
    record { index = (is_index a.s.now a.at a.n (asked_of h) _ _ _ refl p, omega (arith, index_count a.s.now a.at a.n (asked_of h) _ _ _ refl p, h.question_room, c.well_formed)); whole = h.whole; row_in_bounds = (h.tree_room, omega (arith, h.record_room), h.work_room) }

pub returns : goal.returns
returns c =
    let a = c.args in
    let h = c.requires in
    let q = c.fill_questions.ensures in
    let p = c.index_names.ensures in
    let y = asked_words a.s.now a.at a.n (asked_of h) _ _ refl q in
    let e = c.fill_tree-t.ensures in
    let m = index_count a.s.now a.at a.n (asked_of h) _ _ _ refl p in
    (ended_as a.s.now a.at a.star a.n a.k _ _ _ y (m ∙ h.asked) m e c.ended.ensures, q, p ∙ ap (λ x. sets a.patterns.now 0 (name_index a.s.now x a.n)) y, row_as a.s.now a.at a.star a.n a.k _ _ _ y (m ∙ h.asked) m e, records_as a.s.now a.at a.star a.n a.k _ _ _ y (m ∙ h.asked) m e, work_as a.s.now a.at a.star a.n a.k _ _ _ y (m ∙ h.asked) m e)
