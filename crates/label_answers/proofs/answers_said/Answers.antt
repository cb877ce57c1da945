-- `label_answers::answers_said`: a row that doesn't fit, a slice that is too short, or all bytes.
use mathlib.Core.Path.{sym, ◌∙◌}
use native.Mathlib.Omega.{arith}
use borrow.Author.Tests.{not-true, not-false}
use Rattle.label_answers.proofs.Laws.{refused_outside, refused_short, answered_all}
use Rattle.label_answers.proofs.answers_said.Goals as goal

pub returns-then-not-rows_fit : goal.returns-then-not-rows_fit
returns-then-not-rows_fit c = refused_outside _ _ _ _ _ (sym c.rows_fit.ensures ∙ not-true _ c.if-not-rows_fit.true-raw)

pub returns-then-answers-question_rows : goal.returns-then-answers-question_rows
returns-then-answers-question_rows c = refused_short _ _ _ _ _ (sym c.rows_fit.ensures ∙ not-false _ c.if-not-rows_fit.false-raw) c.question_rows.ensures c.if-answers-question_rows.true

pub fill_answers-requires : goal.fill_answers-requires
fill_answers-requires c = (sym c.rows_fit.ensures ∙ not-false _ c.if-not-rows_fit.false-raw, omega (arith, c.question_rows.ensures, c.if-answers-question_rows.false))

pub returns : goal.returns
returns c = answered_all _ _ _ _ _ (sym c.rows_fit.ensures ∙ not-false _ c.if-not-rows_fit.false-raw) c.question_rows.ensures c.if-answers-question_rows.false c.fill_answers.ensures
