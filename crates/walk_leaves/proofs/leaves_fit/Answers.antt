-- `walk_leaves::leaves_fit`: what the library's `all` says of the range.
use Rattle.laws.proofs.Ranged.{all_ranged}
use Rattle.laws.specs.Every.{all}
use Rattle.std.proofs.Common.{rules}
use Rattle.walk_leaves.specs.Checks.{tree_fits, leaves_fit}
use borrow.Author.Tests.{tests}
use mathlib.Core.Path.{ap, ◌∙◌}
use native.Mathlib.Omega.{arith}
use Rattle.walk_leaves.proofs.leaves_fit.Goals as goal

pub returns : goal.returns
unfolding leaves_fit
returns c =
    let a = c.args in
    all_ranged (tree_fits a.questions.now a.trees.now a.records.now a.values.now a.width) 0 c.tree_rows.result c.tree_rows.result (omega arith) _ _ _ c.all.ensures.ran (λ x y q k. search (rules, tests)) ∙ ap (all (tree_fits a.questions.now a.trees.now a.records.now a.values.now a.width) 0) c.tree_rows.ensures
