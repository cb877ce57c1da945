-- `face_house::put_bounds`: four numbers, and the fifth.
use Rattle.face_house.proofs.Laws.{bounds_put}
use Rattle.face_house.proofs.put_bounds.Goals as goal

pub returns : goal.returns
returns c = let a = c.args in bounds_put a.rows a.held.now c.put4.ensures
