-- `label_answers::row_fits`: what the library's `all` says of the range.
use Prim.Native.Nat.{◌+◌}
use Rattle.label_answers.proofs.Laws.{row_fits_lem}
use Rattle.label_answers.specs.Answering.{pattern_fits}
use Rattle.laws.proofs.Ranged.{all_ranged}
use Rattle.std.proofs.Common.{rules}
use borrow.Author.Tests.{tests}
use native.Mathlib.Omega.{arith}
use Rattle.label_answers.proofs.row_fits.Goals as goal

pub returns : goal.returns
returns c =
    let a = c.args in
    row_fits_lem _ _ _ _ c.question_first-first.ensures c.question_patterns-count.ensures
    (all_ranged (λ j. pattern_fits a.patterns.now a.«data».now (c.question_first-first.result + j)) 0 c.question_patterns-count.result c.question_patterns-count.result (omega arith) _ _ _ c.all.ensures.ran (λ x y q k. search (rules, tests)))
