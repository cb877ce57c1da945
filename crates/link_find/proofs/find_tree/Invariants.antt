-- `link_find::find_tree`: the tree that is left to be found from here on is the one that was looked for.
use Prim.Native.Nat.{◌-◌}
use lib.ListN.{length}
use Rattle.link_find.proofs.Finding.{Seeking}
use Rattle.link_find.proofs.find_tree.Given as goal

abbrev pub invariant-loop-next : goal.invariant-loop-next
invariant-loop-next l = Seeking l.s l.first l.n l.i l.left

abbrev pub decreases-loop-next : goal.decreases-loop-next
decreases-loop-next l = length l.s - l.i
