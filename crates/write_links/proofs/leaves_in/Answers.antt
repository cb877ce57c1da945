-- `write_links::leaves_in`: what the library's `all` says of the range.
use Prim.Native.Nat.{◌-◌}
use Rattle.laws.proofs.Ranged.{all_ranged}
use Rattle.std.proofs.Common.{rules}
use Rattle.write_links.specs.Tests.{leaf_in}
use borrow.Author.Tests.{tests}
use native.Mathlib.Omega.{arith}
use Rattle.write_links.proofs.leaves_in.Goals as goal

pub returns : goal.returns
returns c =
    let a = c.args in
    all_ranged (leaf_in a.records.now a.first a.lines) a.lines a.count (a.count - a.lines) (omega arith) _ _ _ c.all.ensures.ran (λ x y q k. search (rules, tests))
