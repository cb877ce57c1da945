-- `write_rows::trees_in`: what the library's `all` says of the range.
use Rattle.laws.proofs.Ranged.{all_ranged}
use Rattle.laws.specs.Every.{all}
use Rattle.std.proofs.Common.{rules}
use Rattle.write_rows.specs.Tests.{tree_in}
use borrow.Author.Tests.{tests}
use mathlib.Core.Path.{ap, ◌∙◌}
use native.Mathlib.Omega.{arith}
use Rattle.write_rows.proofs.trees_in.Goals as goal

pub returns : goal.returns
returns c =
    let a = c.args in
    all_ranged (tree_in a.trees.now a.records.now) 0 c.tree_rows-n.result c.tree_rows-n.result (omega arith) _ _ _ c.all.ensures.ran (λ x y q k. search (rules, tests)) ∙ ap (all (tree_in a.trees.now a.records.now) 0) c.tree_rows-n.ensures
