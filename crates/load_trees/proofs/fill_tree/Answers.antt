-- `load_trees::fill_tree`: the records of a tree's body, and where it has them its row.
use mathlib.Core.Path.{sym, ap, ◌∙◌, subst}
use Prim.Native.Nat.{ℕ, ◌*◌}
use lib.ListN.{length}
use lib.Seq.{sets}
use Rattle.load_trees.specs.Trees.{head_state, Whole, row_words}
use Rattle.load_trees.proofs.Laws.{by_head, room_by}
use Rattle.load_trees.proofs.fill_tree.Goals as goal

pub fill_body-t-requires : goal.fill_body-t-requires
fill_body-t-requires c =
    let a = c.args in
    let p = c.requires in
    let h = sym c.tree_head-head.ensures in
    record { index = p.index; whole = subst (Whole a.s.now) h p.whole; head_in_bounds = room_by a.s.now a.first (length a.records.now) (length a.work.now) h (p.row_in_bounds.1, p.row_in_bounds.2) }

pub returns : goal.returns
returns c =
    let a = c.args in
    let h = c.tree_head-head.ensures in
    let b = c.fill_body-t in
    (by_head a.s.now a.questions.now (length a.index.now) a.first a.records.now a.work.now (sym h) b.ensures, c.put_row.ensures ∙ ap (λ (x : ℕ). sets a.trees.now (6 * a.row) (row_words x a.first b.result.filled)) (c.state_of-state.ensures ∙ ap head_state h))
