-- `load_plan::needs`: the model that is chosen, in the record's data.
use mathlib.Core.Path.{refl, sym}
use Rattle.std.proofs.lemmas.Result.{err_from_is_err_and}
use Rattle.load_plan.specs.Plans.{planned}
use Rattle.load_plan.proofs.needs.Goals as goal

pub returns-in_err-chosen : goal.returns-in_err-chosen
unfolding planned
returns-in_err-chosen c =
    let p = err_from_is_err_and c.from_residual.result c.from_residual.ensures.1 in
    rw (p.1, p.2, sym c.choose.ensures, c.in_err-chosen.was) refl

pub returns : goal.returns
unfolding planned
returns c = rw (sym c.choose.ensures, c.in_ok-chosen.was, sym c.data_of.ensures) c.plan_model.ensures
