-- `write_rows::asks_in`: a line's question; other kinds ask none.
use Rattle.table_rows.specs.Rows.{record_kind, record_question, question_there}
use Rattle.write_rows.proofs.Outside.{zero_kind, other_kind}
use Rattle.write_rows.specs.Tests.{asks_in}
use mathlib.Core.Path.{sym, ap, ◌∙◌}
use Rattle.write_rows.proofs.asks_in.Goals as goal

pub returns-then-record_kind-eq0 : goal.returns-then-record_kind-eq0
unfolding asks_in
returns-then-record_kind-eq0 c = c.question_there.ensures ∙ ap (question_there c.args.questions.now) c.record_question.ensures ∙ sym (zero_kind (record_kind c.args.records.now c.args.i) (question_there c.args.questions.now (record_question c.args.records.now c.args.i)) (sym c.record_kind.ensures ∙ c.if-record_kind-eq0.true))

pub returns : goal.returns
unfolding asks_in
returns c = sym (other_kind (record_kind c.args.records.now c.args.i) (question_there c.args.questions.now (record_question c.args.records.now c.args.i)) (λ z. c.if-record_kind-eq0.false (c.record_kind.ensures ∙ z)))
