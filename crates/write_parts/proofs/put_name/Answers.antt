-- `write_parts::put_name`: all of it.
use Rattle.write_put.proofs.Puts.{put_as}
use Rattle.write_parts.proofs.Laws.{whole_part}
use Rattle.write_parts.proofs.put_name.Goals as goal

pub returns : goal.returns
returns c = put_as (whole_part c.name_of-name.result.now c.name_of-name.ensures) c.put_part.ensures
