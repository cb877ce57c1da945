-- `trail_plan::plan_block`: the block in its range, or what is refused.
use mathlib.Core.Path.{refl, sym}
use Rattle.std.proofs.lemmas.Result.{err_from_is_err_and}
use Rattle.load_range.proofs.Asked.{there, missing}
use Rattle.trail_plan.proofs.plan_block.Goals as goal

pub returns-in_err-block : goal.returns-in_err-block
returns-in_err-block c =
    let p = err_from_is_err_and c.from_residual.result c.from_residual.ensures.1 in
    let o = missing _ _ c.ok_or.ensures.value c.in_err-block.was in
    rw (p.1, p.2, sym c.within.ensures, o.0, o.1) refl

pub returns : goal.returns
returns c =
    let o = there _ _ c.ok_or.ensures.value c.in_ok-block.was in
    rw (sym c.within.ensures, o, sym c.up_to.ensures, sym c.plan_for-plan.ensures) c.plan_entries.ensures
