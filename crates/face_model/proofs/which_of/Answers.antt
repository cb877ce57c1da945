-- `face_model::which_of`: by zero and parity.
use Rattle.face_model.proofs.Laws.{which_duration, which_stream, which_gv}
use Rattle.face_model.proofs.which_of.Goals as goal

pub returns-then-n-eq0 : goal.returns-then-n-eq0
returns-then-n-eq0 c = which_duration _ c.if-n-eq0.true

pub returns-then-n-eq1 : goal.returns-then-n-eq1
returns-then-n-eq1 c = which_stream _ c.if-n-eq0.false c.if-n-eq1.true

pub returns : goal.returns
returns c = which_gv _ c.if-n-eq0.false c.if-n-eq1.false
