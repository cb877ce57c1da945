-- `walk_depth::depth_said`: no such tree, too little work, or its records; the work made zero before and after.
use mathlib.Core.Path.{sym, ap, ◌∙◌}
use native.Mathlib.Omega.{arith}
use lib.IntN.{pos}
use lib.ListN.{length, replicate, length-replicate}
use borrow.Author.Tests.{not-true, not-false, ltb-true}
use Rattle.walk_depth.proofs.Saying.{zeroed, says_missing, says_short, enough, says_there}
use Rattle.walk_depth.proofs.depth_said.Goals as goal

pub returns-then-not-tree_there : goal.returns-then-not-tree_there
returns-then-not-tree_there c = says_missing _ _ _ (sym c.tree_there.ensures ∙ not-true _ c.if-not-tree_there.true-raw) c.said.ensures c.zero_work.ensures

pub tree_records-count-requires : goal.tree_records-count-requires
tree_records-count-requires c = ltb-true _ _ (sym c.tree_there.ensures ∙ not-false _ c.if-not-tree_there.false-raw)

pub returns-then-work-count : goal.returns-then-work-count
returns-then-work-count c = says_short _ _ _ (sym c.tree_there.ensures ∙ not-false _ c.if-not-tree_there.false-raw) c.tree_records-count.ensures c.if-work-count.true c.said-then-work-count.ensures

pub tree_first-requires : goal.tree_first-requires
tree_first-requires c = ltb-true _ _ (sym c.tree_there.ensures ∙ not-false _ c.if-not-tree_there.false-raw)

pub judge-depth-requires : goal.judge-depth-requires
judge-depth-requires c =
    let a = c.args in
    let h = enough a.work.now c.if-work-count.false in
    let z = c.zero_work-2.ensures in
    (omega (arith, h, ap length z, length-replicate (length a.work.now) (pos 0)), zeroed (length a.work.now) z)

pub returns : goal.returns
returns c =
    let a = c.args in
    says_there _ _ _ (sym c.tree_there.ensures ∙ not-false _ c.if-not-tree_there.false-raw) c.tree_records-count.ensures c.tree_first.ensures (enough a.work.now c.if-work-count.false)
    c.judge-depth.ensures
    (c.zero_work-3.ensures ∙ ap (λ m. replicate m (pos 0)) (c.work-3-1.given ∙ c.work-2-1.given))
