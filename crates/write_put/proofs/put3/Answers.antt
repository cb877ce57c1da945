-- `write_put::put3`: one behind the other.
use Rattle.write_put.proofs.Puts.{put_then}
use Rattle.write_put.proofs.put3.Goals as goal

pub returns : goal.returns
returns c = put_then c.put2-i.ensures c.put1.ensures
