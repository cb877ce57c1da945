-- `write_counts::all_counted`: the windows from `base` on say what all say.
use Prim.Native.Nat.{◌-◌}
use Rattle.write_counts.proofs.Laws.{Windows}
use Rattle.write_counts.specs.Counts.{counted}
use Rattle.write_counts.proofs.all_counted.Given as goal

abbrev pub invariant-loop-base : goal.invariant-loop-base
invariant-loop-base l = Windows (counted l.records l.first l.count l.lines) l.lines l.count l.base

abbrev pub decreases-loop-base : goal.decreases-loop-base
decreases-loop-base l = l.count - l.base
