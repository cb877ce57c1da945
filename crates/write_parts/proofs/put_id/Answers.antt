-- `write_parts::put_id`: 0, or a dash and the digits.
use Rattle.write_put.proofs.Puts.{put_then, put_as}
use Rattle.write_parts.proofs.Laws.{id_zero, id_more}
use Rattle.write_parts.proofs.put_id.Goals as goal

pub returns-then-k-eq0 : goal.returns-then-k-eq0
returns-then-k-eq0 c = put_as (id_zero c.args.k c.if-k-eq0.true) c.put1.ensures

pub returns : goal.returns
returns c = put_as (id_more c.args.k c.if-k-eq0.false) (put_then c.put1-next.ensures c.put_figures.ensures)
