-- `walk::ask`: the byte is 0, is another, or there is none.
use Rattle.walk.proofs.Judged.{line_no, line_yes, line_wrong}
use Rattle.walk.proofs.ask.Goals as goal

pub returns-then-answers-question-eq0 : goal.returns-then-answers-question-eq0
returns-then-answers-question-eq0 c =
    let a = c.args in
    line_no a.records.now a.answers.now a.i c.record_question-question.ensures c.if-question-answers.true c.if-answers-question-eq0.true c.record_no.ensures

pub returns-else-answers-question-eq0 : goal.returns-else-answers-question-eq0
returns-else-answers-question-eq0 c =
    let a = c.args in
    line_yes a.records.now a.answers.now a.i c.record_question-question.ensures c.if-question-answers.true c.if-answers-question-eq0.false c.record_yes.ensures

pub returns-else-question-answers : goal.returns-else-question-answers
returns-else-question-answers c =
    let a = c.args in
    line_wrong a.records.now a.answers.now a.i c.record_question-question.ensures c.if-question-answers.false
