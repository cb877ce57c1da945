-- `trail_plan::plan_tree`: the text in its range, the tree where its row says, and the block.
use mathlib.Core.Path.{refl, sym}
use Rattle.std.proofs.lemmas.Result.{err_from_is_err_and}
use Rattle.load_range.proofs.Asked.{there, missing}
use Rattle.trail_plan.specs.Plans.{tree_of}
use Rattle.trail_plan.proofs.plan_tree.Goals as goal

pub plan_block-requires : goal.plan_block-requires
plan_block-requires c = c.requires.inside _ c.in-Some.is

pub returns-in_err-range : goal.returns-in_err-range
unfolding tree_of
returns-in_err-range c =
    let p = err_from_is_err_and c.from_residual.result c.from_residual.ensures.1 in
    let o = missing _ _ c.ok_or.ensures.value c.in_err-range.was in
    rw (p.1, p.2, sym c.within.ensures, o.0, o.1) refl

pub returns-in-None : goal.returns-in-None
unfolding tree_of
returns-in-None c =
    let o = there _ _ c.ok_or.ensures.value c.in_ok-range.was in
    rw (sym c.within.ensures, o, c.in-None.is) refl

pub returns-in_err-text-in-Some : goal.returns-in_err-text-in-Some
unfolding tree_of
returns-in_err-text-in-Some c =
    let p = err_from_is_err_and c.from_residual-in_err-text-in-Some.result c.from_residual-in_err-text-in-Some.ensures.1 in
    let o = there _ _ c.ok_or.ensures.value c.in_ok-range.was in
    rw (p.1, p.2, sym c.within.ensures, o, c.in-Some.is, sym c.up_to.ensures, sym c.read_tree.ensures, c.in_err-text-in-Some.was) refl

pub returns-in_ok-text-in-Some : goal.returns-in_ok-text-in-Some
unfolding tree_of
returns-in_ok-text-in-Some c =
    let o = there _ _ c.ok_or.ensures.value c.in_ok-range.was in
    rw (sym c.within.ensures, o, c.in-Some.is, sym c.up_to.ensures, sym c.read_tree.ensures, c.in_ok-text-in-Some.was) c.plan_block.ensures
