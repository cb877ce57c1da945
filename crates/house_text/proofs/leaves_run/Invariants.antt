-- `house_text::leaves_run` meets its contract.
use Prim.Native.Nat.{◌-◌, ◌+◌, ◌≤◌}
use lib.ListN.{length}
use Rattle.table_rows.specs.Rows.{tree_rows, tree_entries}
use Rattle.tree_body.specs.Trees.{trees_at}
use Rattle.house_text.specs.Text.{body_fits}
use Rattle.house_text.proofs.Laws.{Judging}
use Rattle.house_text.proofs.leaves_run.Given as goal

abbrev pub invariant-loop-next : goal.invariant-loop-next
invariant-loop-next l = Judging l.s (λ k b. body_fits (tree_entries l.trees k) b) l.at l.k l.i × (l.k + length (trees_at l.s l.i).items ≤ tree_rows l.trees) × (l.k ≤ l.i)

abbrev pub decreases-loop-next : goal.decreases-loop-next
decreases-loop-next l = length l.s - l.i
