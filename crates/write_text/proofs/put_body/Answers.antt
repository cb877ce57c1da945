-- `write_text::put_body`: each way through.
use Rattle.write_put.proofs.Puts.{put_then, put_as}
use Rattle.write_text.proofs.Laws.{body_empty, body_leaf, body_lines}
use Rattle.write_text.proofs.put_body.Goals as goal

pub returns-then-count-eq0 : goal.returns-then-count-eq0
returns-then-count-eq0 c = put_as (body_empty c.args.s.now c.args.questions.now c.args.records.now c.args.first c.args.count c.args.lines c.if-lines-eq0.true c.if-count-eq0.true) c.put3.ensures

pub returns-then-lines-eq0 : goal.returns-then-lines-eq0
returns-then-lines-eq0 c = put_as (body_leaf c.args.s.now c.args.questions.now c.args.records.now c.args.first c.args.count c.args.lines c.if-lines-eq0.true c.if-count-eq0.false) c.put_leaf.ensures

pub returns : goal.returns
returns c = put_as (body_lines c.args.s.now c.args.questions.now c.args.records.now c.args.first c.args.count c.args.lines c.if-lines-eq0.false) (put_then c.put2-start.ensures (put_then c.put_lines-end.ensures c.put1.ensures))
