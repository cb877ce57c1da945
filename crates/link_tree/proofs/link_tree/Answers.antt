-- `link_tree::link_tree`: the stages, put together.
use mathlib.Core.Path.{◌≡◌, sym, ap, ◌∙◌}
use mathlib.Core.List.{List}
use Prim.Native.Nat.{ℕ}
use lib.IntN.{ℤ}
use lib.ListN.{length, replicate}
use Rattle.error.specs.declared.LineFault.{LineFault}
use Rattle.std.specs.declared.result.Result.{Result}
use Rattle.link_tree.specs.Linked.{link_outcome, linked_rows, rows_after, Linking}
use Rattle.link_tree.proofs.Whole.{leaves_there, size₂, rows_ready, outcome_is, rows_linked}
use Rattle.link_tree.proofs.link_tree.Goals as goal

-- how linking ended, and the rows that it left
ended : {w : List ℤ} {n : ℕ} {before after : List ℕ} {r k : Result Unit LineFault} → r ≡ link_outcome w n → r ≡ k → after ≡ rows_after k (linked_rows w n) (length before) → Linking w n before after k
ended {w} {n} {before} e q z = record { is = sym q ∙ e; rows = z ∙ ap (λ (x : Result Unit LineFault). rows_after x (linked_rows w n) (length before)) (sym q ∙ e) }

pub resolve_lines-requires : goal.resolve_lines-requires
resolve_lines-requires c =
    let a = c.args in
    let pre = c.requires in
    (pre.0, rows_ready a.work.now a.n a.leaves a.rows.now pre.1 pre.2 _ c.sort_leaves.ensures _ c.index_lines-ordered.ensures.1 _ c.index_lines-ordered.ensures.0)

pub returns-in-Ok : goal.returns-in-Ok
returns-in-Ok c =
    let a = c.args in
    let pre = c.requires in
    let there = leaves_there a.work.now a.n a.leaves a.rows.now pre.1 pre.2 _ c.sort_leaves.ensures _ c.index_lines-ordered.ensures.1 in
    let room = size₂ a.work.now a.n a.leaves a.rows.now pre.1 pre.2 _ c.sort_leaves.ensures _ c.index_lines-ordered.ensures.1 ∙ pre.2 in
    let r = c.resolve_lines in
    let o = outcome_is a.work.now a.n a.leaves _ pre.1 room there r.ensures.0 in
    let q = c.in-Ok.is in
    ended o q (rows_linked a.work.now a.n a.leaves _ pre.1 room there (sym o ∙ q) r.ensures.1 c.spread_leaves.ensures c.write_lines.ensures)

pub returns-in-Err : goal.returns-in-Err
returns-in-Err c =
    let a = c.args in
    let pre = c.requires in
    let there = leaves_there a.work.now a.n a.leaves a.rows.now pre.1 pre.2 _ c.sort_leaves.ensures _ c.index_lines-ordered.ensures.1 in
    let room = size₂ a.work.now a.n a.leaves a.rows.now pre.1 pre.2 _ c.sort_leaves.ensures _ c.index_lines-ordered.ensures.1 ∙ pre.2 in
    let r = c.resolve_lines in
    let o = outcome_is a.work.now a.n a.leaves _ pre.1 room there r.ensures.0 in
    ended o c.in-Err.is (c.zero.ensures ∙ ap (λ (k : ℕ). replicate k 0) (r.auto.rows ∙ room ∙ sym pre.2))
