-- `link_tree::sort_leaves`: what was gathered, sorted where it stands.
use Prim.Native.Nat.{◌*◌}
use native.Mathlib.Omega.{arith}
use Rattle.link_order.specs.Keys.{key_of}
use Rattle.link_targets.specs.Lines.{lines_from, pdfs_of}
use Rattle.link_tree.specs.Linked.{leaves_of}
use Rattle.link_tree.proofs.Whole.{sorted_part}
use Rattle.link_tree.proofs.sort_leaves.Goals as goal

pub returns : goal.returns
unfolding leaves_of
returns c =
    let a = c.args in
    let g = c.gather-end in
    sorted_part (key_of (λ x. 0)) a.rows.now (4 * a.n) _ (pdfs_of (lines_from a.work.now 0 a.n)) (omega (arith, c.requires)) g.ensures.1 g.ensures.0 c.sort_numbers.ensures
