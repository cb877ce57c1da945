-- `write_parts::put_reference`: a line by its id, a leaf by its number.
use Rattle.write_put.proofs.Puts.{put_as}
use Rattle.write_parts.proofs.Laws.{ref_line, ref_leaf}
use Rattle.written.specs.Writing.{spelled_ref}
use mathlib.Core.Path.{ap}
use Rattle.write_parts.proofs.put_reference.Goals as goal

pub returns-then-k-lines : goal.returns-then-k-lines
returns-then-k-lines c = put_as (ap spelled_ref (ref_line c.args.records.now c.args.first c.args.lines c.args.k c.if-k-lines.true)) c.put_id.ensures

pub returns : goal.returns
returns c = put_as (ap spelled_ref (ref_leaf c.args.records.now c.args.first c.args.lines c.args.k c.if-k-lines.false)) c.put_leaf.ensures
