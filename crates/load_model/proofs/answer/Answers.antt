-- `load_model::answer`: each way that linking ends.
use mathlib.Core.Path.{sym, ap}
use Rattle.load_model.specs.Load.{answer_for}
use Rattle.load_model.proofs.answer.Goals as goal

pub returns-in-Ok : goal.returns-in-Ok
returns-in-Ok c = sym (ap (answer_for c.args.p) c.in-Ok.is)

pub returns-in-Err : goal.returns-in-Err
returns-in-Err c = sym (ap (answer_for c.args.p) c.in-Err.is)
