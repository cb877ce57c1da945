-- `face_model::walk_said`: by how the walk ends.
use mathlib.Core.Path.{sym, ap, ◌∙◌}
use Rattle.face_model.specs.Answers.{ended_by}
use Rattle.face_model.proofs.walk_said.Goals as goal

pub returns-in-Ok : goal.returns-in-Ok
returns-in-Ok c = ap ended_by (sym c.in-Ok.is ∙ c.walk.ensures)

pub returns-in-Err : goal.returns-in-Err
returns-in-Err c = rw c.number.ensures (ap ended_by (sym c.in-Err.is ∙ c.walk.ensures))
