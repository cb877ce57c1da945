-- `write_put::put5`: one behind the other.
use Rattle.write_put.proofs.Puts.{put_then}
use Rattle.write_put.proofs.put5.Goals as goal

pub returns : goal.returns
returns c = put_then c.put3-i.ensures c.put2.ensures
