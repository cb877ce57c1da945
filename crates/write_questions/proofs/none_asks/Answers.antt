-- `write_questions::none_asks`: what the library's `all` says of the range.
use Rattle.laws.proofs.Ranged.{all_ranged}
use Rattle.laws.specs.Every.{all}
use Rattle.std.proofs.Common.{rules}
use Rattle.write_questions.specs.Tests.{asks_other}
use borrow.Author.Tests.{tests}
use mathlib.Core.Path.{ap, ◌∙◌}
use native.Mathlib.Omega.{arith}
use Rattle.write_questions.proofs.none_asks.Goals as goal

pub returns : goal.returns
returns c =
    let a = c.args in
    all_ranged (asks_other a.records.now a.q) 0 c.record_rows-n.result c.record_rows-n.result (omega arith) _ _ _ c.all.ensures.ran (λ x y q k. search (rules, tests)) ∙ ap (all (asks_other a.records.now a.q) 0) c.record_rows-n.ensures
