-- `load_trees::put_row`: a row where the tree has its records.
use mathlib.Core.Path.{sym, ap, ◌∙◌}
use Prim.Native.Nat.{◌*◌}
use lib.Seq.{sets}
use Rattle.load_trees.specs.Trees.{row_words}
use Rattle.load_trees.proofs.put_row.Goals as goal
use Rattle.load_tree.specs.declared.Filled.{Filled}
use Rattle.error.specs.declared.LineFault.{LineFault}
use Rattle.std.specs.Prelude.{Result}

pub returns-in-Ok : goal.returns-in-Ok
returns-in-Ok c =
    let a = c.args in
    c.put_tree.ensures ∙ ap (λ (f : Result Filled LineFault). sets a.trees.now (6 * a.row) (row_words a.state a.first f)) (sym c.in-Ok.is)
