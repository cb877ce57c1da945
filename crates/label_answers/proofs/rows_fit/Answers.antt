-- `label_answers::rows_fit`: what the library's `all` says of the range.
use Rattle.label_answers.proofs.Laws.{rows_fit_lem}
use Rattle.label_answers.specs.Answering.{row_fits}
use Rattle.laws.proofs.Ranged.{all_ranged}
use Rattle.std.proofs.Common.{rules}
use borrow.Author.Tests.{tests}
use native.Mathlib.Omega.{arith}
use Rattle.label_answers.proofs.rows_fit.Goals as goal

pub returns : goal.returns
returns c =
    let a = c.args in
    rows_fit_lem _ _ _ c.question_rows-rows.ensures
    (all_ranged (row_fits a.questions.now a.patterns.now a.«data».now) 0 c.question_rows-rows.result c.question_rows-rows.result (omega arith) _ _ _ c.all.ensures.ran (λ x y q k. search (rules, tests)))
