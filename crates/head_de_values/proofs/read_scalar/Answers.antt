-- `head_de_values::read_scalar` meets its contract.
use Rattle.std.proofs.lemmas.Result.{err_from_is_err_and}
use mathlib.Core.Path.{sym, ap, ◌∙◌}
use Rattle.head_de_values.specs.Values.{of_scalar}
use Rattle.head_de_values.proofs.Scalars.{value_to, scalar_stands}
use Rattle.head_de_values.proofs.read_scalar.Goals as goal

pub returns-in_err-next : goal.returns-in_err-next
returns-in_err-next c =
    let p = err_from_is_err_and c.from_residual.result c.from_residual.ensures.1 in
    rw (p.1, p.2) (sym (ap (value_to (of_scalar c.scalar_in-x.result)) c.in_err-next.was) ∙ scalar_stands c.args.asked _ _ c.outer.ensures c.scalar_in-x.ensures)

pub returns : goal.returns
returns c = rw c.of_scalar.ensures (sym (ap (value_to (of_scalar c.scalar_in-x.result)) c.in_ok-next.was) ∙ scalar_stands c.args.asked _ _ c.outer.ensures c.scalar_in-x.ensures)
