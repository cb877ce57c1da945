-- `head_de_values::read_perhaps` meets its contract.
use mathlib.Core.Path.{sym, ap, ◌∙◌}
use Rattle.std.proofs.lemmas.Result.{err_from_is_err_and}
use Rattle.head_de.specs.Values.{pair_at}
use Rattle.head_de_values.specs.Values.{read_at, value_of, blank_value}
use Rattle.head_de_values.proofs.Scalars.{flagged, pair_flagged}
use Rattle.head_de_values.proofs.read_perhaps.Goals as goal

pub returns-then-ends : goal.returns-then-ends
unfolding read_at value_of blank_value
returns-then-ends c = rw (c.blank.ensures, sym c.ends.ensures ∙ c.if-ends.true)

pub returns-in_err-found : goal.returns-in_err-found
unfolding read_at
returns-in_err-found c =
    let p = err_from_is_err_and c.from_residual.result c.from_residual.ensures.1 in
    rw (p.1, p.2, sym c.ends.ensures ∙ c.if-ends.false) (sym (ap flagged c.in_err-found.was) ∙ ap flagged c.read_pair.ensures ∙ pair_flagged (pair_at _ _ _))

pub returns : goal.returns
unfolding read_at
returns c = rw (sym c.ends.ensures ∙ c.if-ends.false) (sym (ap flagged c.in_ok-found.was) ∙ ap flagged c.read_pair.ensures ∙ pair_flagged (pair_at _ _ _))
