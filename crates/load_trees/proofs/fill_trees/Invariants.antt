-- `load_trees::fill_trees`: what is left, stored, gives the tables with all trees.
use Prim.Native.Nat.{◌-◌}
use lib.ListN.{length}
use Rattle.load_trees.proofs.Loop.{Filling}
use Rattle.load_trees.proofs.fill_trees.Given as goal

abbrev pub invariant-loop-next : goal.invariant-loop-next
invariant-loop-next l =
    Filling l.s l.questions (length l.index) l.at l.initial.trees l.initial.records l.initial.work l.trees l.records l.work l.i l.row l.first

abbrev pub decreases-loop-next : goal.decreases-loop-next
decreases-loop-next l = length l.s - l.i
