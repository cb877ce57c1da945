-- `face_put::put_needed`: part by part.
use Rattle.face_put.proofs.Laws.{needed-written}
use Rattle.face_put.proofs.put_needed.Goals as goal

pub returns : goal.returns
returns c = let a = c.args in needed-written a.needed a.out.now _ _ _ c.put4.ensures c.put4-2.ensures c.put2.ensures
