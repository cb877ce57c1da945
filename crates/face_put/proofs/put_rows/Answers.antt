-- `face_put::put_rows`: part by part.
use Rattle.face_put.proofs.Laws.{rows_written}
use Rattle.face_put.proofs.put_rows.Goals as goal

pub returns : goal.returns
returns c = let a = c.args in rows_written a.rows a.out.now _ _ c.put4.ensures c.put4-2.ensures
