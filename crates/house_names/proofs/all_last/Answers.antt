-- `house_names::all_last`: what the library's `all` says of the range.
use Rattle.house_names.specs.Names.{is_last, all_last}
use Rattle.laws.proofs.Ranged.{all_ranged}
use Rattle.std.proofs.Common.{rules}
use borrow.Author.Tests.{tests}
use lib.ListN.{length}
use native.Mathlib.Omega.{arith}
use Rattle.house_names.proofs.all_last.Goals as goal

pub returns : goal.returns
unfolding all_last
returns c =
    let a = c.args in
    all_ranged (is_last a.s.now a.questions.now (length a.index.now)) 0 (length a.index.now) (length a.index.now) (omega arith) _ _ _ c.all.ensures.ran (λ x y q k. search (rules, tests))
