-- `write_text::put_trees`: the trees that are left, put where the loop is, are all of them.
use Prim.Native.Nat.{◌-◌}
use Rattle.write_put.proofs.Puts.{Leads}
use Rattle.table_rows.specs.Rows.{tree_rows}
use Rattle.write_parts.specs.Parts.{each, tree_of}
use Rattle.written.specs.Writing.{spelled_tree}
use mathlib.Core.List.{map, flatten}
use Rattle.write_text.proofs.put_trees.Given as goal

abbrev pub invariant-loop-t : goal.invariant-loop-t
invariant-loop-t l =
    Leads l.initial.b l.at (flatten (map spelled_tree (each (tree_of l.s l.questions l.trees l.records) 0 (tree_rows l.trees)))) l.b l.i (flatten (map spelled_tree (each (tree_of l.s l.questions l.trees l.records) l.t (l.n - l.t))))
