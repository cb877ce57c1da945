-- `write_rows::tree_in`: what the library's `all` says of the range.
use Prim.Native.Nat.{ℕ}
use Rattle.laws.proofs.Ranged.{all_ranged}
use Rattle.laws.specs.Every.{all}
use Rattle.std.proofs.Common.{rules}
use Rattle.write_rows.specs.Tests.{goes_in, tree_in}
use borrow.Author.Tests.{tests}
use mathlib.Core.Path.{◌∙◌}
use mathlib.Core.Path.{ap₂}
use native.Mathlib.Omega.{arith}
use Rattle.write_rows.proofs.tree_in.Goals as goal

pub returns : goal.returns
unfolding tree_in
returns c =
    let a = c.args in
    all_ranged (goes_in a.records.now c.tree_first-first.result) 0 c.tree_records-n.result c.tree_records-n.result (omega arith) _ _ _ c.all.ensures.ran (λ x y q k. search (rules, tests)) ∙ ap₂ (λ (f n : ℕ). all (goes_in a.records.now f) 0 n) c.tree_first-first.ensures c.tree_records-n.ensures
