-- `write_questions::none_hidden`: what the library's `all` says of the range.
use Rattle.laws.proofs.Ranged.{all_ranged}
use Rattle.laws.specs.Every.{all}
use Rattle.std.proofs.Common.{rules}
use Rattle.write_questions.specs.Tests.{not_hidden, none_hidden}
use borrow.Author.Tests.{tests}
use mathlib.Core.Path.{ap, ◌∙◌}
use native.Mathlib.Omega.{arith}
use Rattle.write_questions.proofs.none_hidden.Goals as goal

pub returns : goal.returns
unfolding none_hidden
returns c =
    let a = c.args in
    all_ranged (not_hidden a.s.now a.questions.now a.records.now) 0 c.question_rows-n.result c.question_rows-n.result (omega arith) _ _ _ c.all.ensures.ran (λ x y q k. search (rules, tests)) ∙ ap (all (not_hidden a.s.now a.questions.now a.records.now) 0) c.question_rows-n.ensures
