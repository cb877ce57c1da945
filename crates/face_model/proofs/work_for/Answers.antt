-- `face_model::work_for`: by whether the product fits.
use Rattle.face_model.proofs.Laws.{work_most, work_all}
use Rattle.face_model.proofs.work_for.Goals as goal

pub returns-then-lines-gt3074457345618258602 : goal.returns-then-lines-gt3074457345618258602
returns-then-lines-gt3074457345618258602 c = work_most _ c.if-lines-gt3074457345618258602.true

pub returns : goal.returns
returns c = work_all _ c.if-lines-gt3074457345618258602.false
