-- `load_trees::what_follows`: each way that a tree ends, and of one with its records what stands behind it.
use mathlib.Core.Path.{sym, ap, ◌∙◌}
use Rattle.load_trees.specs.Trees.{ended_at, follows_step, follows_at}
use Rattle.load_trees.specs.declared.Following.TheVariants as following
use Rattle.load_trees.proofs.what_follows.Goals as goal

pub returns-in-Next : goal.returns-in-Next
returns-in-Next c =
    let a = c.args in
    ap (follows_step c.in-Ok.tree.records) (sym c.in-Next.is ∙ c.after_tree.ensures) ∙ sym (ap (follows_at a.s.now a.row a.next) c.in-Ok.is)

pub returns-in-End : goal.returns-in-End
returns-in-End c =
    let a = c.args in
    ap (follows_step c.in-Ok.tree.records) (sym c.in-End.is ∙ c.after_tree.ensures) ∙ sym (ap (follows_at a.s.now a.row a.next) c.in-Ok.is)

pub returns-in-Broken : goal.returns-in-Broken
returns-in-Broken c =
    let a = c.args in
    ap (follows_step c.in-Ok.tree.records) (sym c.in-Broken.is ∙ c.after_tree.ensures) ∙ sym (ap (follows_at a.s.now a.row a.next) c.in-Ok.is)

pub returns-in-Err : goal.returns-in-Err
returns-in-Err c =
    let a = c.args in
    let d = c.in-Err.is in
    ap following.End (c.ended.ensures ∙ ap (ended_at a.row) d) ∙ sym (ap (follows_at a.s.now a.row a.next) d)
