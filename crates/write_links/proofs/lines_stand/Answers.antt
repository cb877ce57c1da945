-- `write_links::lines_stand`: what the library's `all` says of the range.
use Rattle.laws.proofs.Ranged.{all_ranged}
use Rattle.std.proofs.Common.{rules}
use Rattle.write_links.specs.Tests.{line_in}
use borrow.Author.Tests.{tests}
use native.Mathlib.Omega.{arith}
use Rattle.write_links.proofs.lines_stand.Goals as goal

pub returns : goal.returns
returns c =
    let a = c.args in
    all_ranged (line_in a.records.now a.first a.count a.lines) 0 a.lines a.lines (omega arith) _ _ _ c.all.ensures.ran (λ x y q k. search (rules, tests))
