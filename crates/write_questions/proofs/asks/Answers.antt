-- `write_questions::asks`: its kind, then its question.
use Rattle.write_questions.proofs.HiddenNames.{asks_line, asks_no_line}
use Rattle.write_questions.proofs.asks.Goals as goal

pub returns-then-record_kind-eq0 : goal.returns-then-record_kind-eq0
returns-then-record_kind-eq0 c = asks_line c.args.records.now c.args.q c.args.i c.record_kind.ensures c.if-record_kind-eq0.true c.record_question.ensures

pub returns-else-record_kind-eq0 : goal.returns-else-record_kind-eq0
returns-else-record_kind-eq0 c = asks_no_line c.args.records.now c.args.q c.args.i c.record_kind.ensures c.if-record_kind-eq0.false
