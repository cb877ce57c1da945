-- `face_model::needed_for`: field by field.
use mathlib.Core.Path.{refl}
use Rattle.face_model.proofs.needed_for.Goals as goal

pub returns : goal.returns
returns c = rw c.work_for.ensures refl
