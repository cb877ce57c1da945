-- `walk_leaves::line_fits`: no question, no yes, or by no.
use mathlib.Core.Path.{sym, ◌∙◌}
use borrow.Author.Tests.{not-true, not-false}
use Rattle.walk_leaves.proofs.Judged.{no_question, no_yes, by_no}
use Rattle.walk_leaves.proofs.line_fits.Goals as goal

pub returns-then-not-question_there : goal.returns-then-not-question_there
returns-then-not-question_there c = let a = c.args in no_question a.questions.now a.records.now a.count a.i c.record_question.ensures (sym c.question_there.ensures ∙ not-true _ c.if-not-question_there.true-raw)

pub returns-then-count-record_yes : goal.returns-then-count-record_yes
returns-then-count-record_yes c =
    let a = c.args in
    no_yes a.questions.now a.records.now a.count a.i c.record_question.ensures (sym c.question_there.ensures ∙ not-false _ c.if-not-question_there.false-raw) c.record_yes.ensures c.if-count-record_yes.true

pub returns : goal.returns
returns c =
    let a = c.args in
    by_no a.questions.now a.records.now a.count a.i c.record_question.ensures (sym c.question_there.ensures ∙ not-false _ c.if-not-question_there.false-raw) c.record_yes.ensures c.if-count-record_yes.false c.record_no.ensures
