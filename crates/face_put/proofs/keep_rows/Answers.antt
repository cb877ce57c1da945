-- `face_put::keep_rows`: the rows, or as they were.
use Rattle.face_put.proofs.Laws.{keep_done, keep_not}
use Rattle.face_put.proofs.keep_rows.Goals as goal

pub returns-then-rows-eq0 : goal.returns-then-rows-eq0
returns-then-rows-eq0 c = let a = c.args in keep_done a.rows a.held.now _ c.if-rows-eq0.true c.put4.ensures

pub returns-else-rows-eq0 : goal.returns-else-rows-eq0
returns-else-rows-eq0 c = let a = c.args in keep_not a.rows a.held.now c.if-rows-eq0.false
