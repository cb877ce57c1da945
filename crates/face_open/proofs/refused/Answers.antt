-- `face_open::refused`: number and place.
use mathlib.Core.Path.{refl}
use Rattle.face_open.proofs.refused.Goals as goal

pub returns : goal.returns
returns c = rw (c.place.ensures, c.number.ensures) refl
