-- `write_put::put2`: one behind the other.
use Rattle.write_put.proofs.Puts.{put_then}
use Rattle.write_put.proofs.put2.Goals as goal

pub returns : goal.returns
returns c = put_then c.put1-i.ensures c.put1.ensures
