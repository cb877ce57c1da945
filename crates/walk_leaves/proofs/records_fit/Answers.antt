-- `walk_leaves::records_fit`: what the library's `all` says of the range.
use Rattle.laws.proofs.Ranged.{all_ranged}
use Rattle.std.proofs.Common.{rules}
use Rattle.walk_leaves.specs.Checks.{record_fits}
use borrow.Author.Tests.{tests}
use native.Mathlib.Omega.{arith}
use Rattle.walk_leaves.proofs.records_fit.Goals as goal

pub returns : goal.returns
returns c =
    let a = c.args in
    all_ranged (record_fits a.questions.now a.records.now a.first a.count a.entries) 0 a.count a.count (omega arith) _ _ _ c.all.ensures.ran (λ x y q k. search (rules, tests))
