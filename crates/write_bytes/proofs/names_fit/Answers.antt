-- `write_bytes::names_fit`: what the library's `all` says of the range.
use Rattle.laws.proofs.Ranged.{all_ranged}
use Rattle.laws.specs.Every.{all}
use Rattle.std.proofs.Common.{rules}
use Rattle.write_bytes.specs.Tests.{name_fits}
use borrow.Author.Tests.{tests}
use mathlib.Core.Path.{ap, ◌∙◌}
use native.Mathlib.Omega.{arith}
use Rattle.write_bytes.proofs.names_fit.Goals as goal

pub returns : goal.returns
returns c =
    let a = c.args in
    all_ranged (name_fits a.s.now a.questions.now) 0 c.question_rows-n.result c.question_rows-n.result (omega arith) _ _ _ c.all.ensures.ran (λ x y q k. search (rules, tests)) ∙ ap (all (name_fits a.s.now a.questions.now) 0) c.question_rows-n.ensures
