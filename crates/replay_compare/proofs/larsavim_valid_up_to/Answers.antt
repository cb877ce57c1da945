-- `replay_compare::larsavim_valid_up_to`: by the answer.
use mathlib.Core.Path.{sym, ap, ◌∙◌}
use lib.ListN.{length}
use Rattle.replay_compare.specs.Valid.{valid_up_to}
use Rattle.replay_compare.proofs.larsavim_valid_up_to.Goals as goal

pub returns-in-Ok : goal.returns-in-Ok
returns-in-Ok c = ap (valid_up_to (length c.args.s.now)) (sym c.in-Ok.is ∙ c.check.ensures)

pub returns-in-Err : goal.returns-in-Err
returns-in-Err c = ap (valid_up_to (length c.args.s.now)) (sym c.in-Err.is ∙ c.check.ensures)
