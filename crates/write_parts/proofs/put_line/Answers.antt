-- `write_parts::put_line`: its parts one behind the other.
use Rattle.write_put.proofs.Puts.{put_then, put_as}
use Rattle.write_parts.proofs.Laws.{line_bytes}
use mathlib.Core.Path.{◌∙◌}
use Rattle.write_parts.proofs.put_line.Goals as goal

pub shape_of-b : goal.shape_of-b
shape_of-b c = c.put1.auto.b ∙ c.put_reference-yes.auto.b ∙ c.put1-before_yes.auto.b ∙ c.put_reference-no.auto.b ∙ c.put1-before_no.auto.b ∙ c.put_name-name.auto.b ∙ c.put1-before_name.auto.b ∙ c.put_id-id.auto.b

pub returns : goal.returns
returns c = put_as (line_bytes c.args.s.now c.args.questions.now c.args.records.now c.args.first c.args.lines c.args.k c.asked-q.ensures c.goes_no-n.ensures c.goes_yes-y.ensures)
    (put_then c.put_id-id.ensures (put_then c.put1-before_name.ensures (put_then c.put_name-name.ensures (put_then c.put1-before_no.ensures (put_then c.put_reference-no.ensures (put_then c.put1-before_yes.ensures (put_then c.put_reference-yes.ensures c.put1.ensures)))))))
