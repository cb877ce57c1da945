-- `house_values::good_value` meets its contract.
use mathlib.Core.Path.{sym, ap, ◌∙◌}
use mathlib.Core.Bool.{Bool}
use Rattle.house_values.specs.Values.{good_value}
use Rattle.house_values.proofs.good_value.Goals as goal

pub returns-then-variance : goal.returns-then-variance
returns-then-variance c = c.good_variance.ensures ∙ ap (λ (b : Bool). good_value b c.args.v) (sym c.if-variance.true)

pub returns : goal.returns
returns c = c.good_mean.ensures ∙ ap (λ (b : Bool). good_value b c.args.v) (sym c.if-variance.false)
