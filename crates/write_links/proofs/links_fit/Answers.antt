-- `write_links::links_fit`: one test after the other.
use Rattle.laws.proofs.Every.{not_first, then_second}
use Rattle.table_rows.specs.Rows.{tree_rows}
use Rattle.write_links.specs.Tests.{links_fit}
use borrow.Author.Tests.{not-true, not-false, lt-ltb, le-ltb}
use mathlib.Core.Path.{sym, ◌∙◌}
use native.Mathlib.Omega.{arith}
use Rattle.write_links.proofs.links_fit.Goals as goal

pub returns-then-tree_rows-eq0 : goal.returns-then-tree_rows-eq0
unfolding links_fit
returns-then-tree_rows-eq0 c = not_first _ (le-ltb 0 (tree_rows c.args.trees.now) (omega (arith, c.tree_rows.ensures, c.if-tree_rows-eq0.true)))

pub returns-then-not-questions_fit : goal.returns-then-not-questions_fit
unfolding links_fit
returns-then-not-questions_fit c = then_second (lt-ltb 0 (tree_rows c.args.trees.now) (omega (arith, c.tree_rows.ensures, c.if-tree_rows-eq0.false))) (not_first _ (sym c.questions_fit.ensures ∙ not-true _ c.if-not-questions_fit.true-raw))

pub returns-then-not-grow : goal.returns-then-not-grow
unfolding links_fit
returns-then-not-grow c = then_second (lt-ltb 0 (tree_rows c.args.trees.now) (omega (arith, c.tree_rows.ensures, c.if-tree_rows-eq0.false))) (then_second (sym c.questions_fit.ensures ∙ not-false _ c.if-not-questions_fit.false-raw) (not_first _ (sym c.grow.ensures ∙ not-true _ c.if-not-grow.true-raw)))

pub returns : goal.returns
unfolding links_fit
returns c = then_second (lt-ltb 0 (tree_rows c.args.trees.now) (omega (arith, c.tree_rows.ensures, c.if-tree_rows-eq0.false))) (then_second (sym c.questions_fit.ensures ∙ not-false _ c.if-not-questions_fit.false-raw) (then_second (sym c.grow.ensures ∙ not-false _ c.if-not-grow.false-raw) c.none_hidden.ensures))
