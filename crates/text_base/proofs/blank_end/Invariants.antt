-- `text_base::blank_end`: the place where the run stops is the same from each place that the loop passes, over the spaces ahead too.
use Rattle.std.proofs.Common.{◌≡◌, ◌-◌, length}
use Rattle.written.specs.Bytes.{blank}
use Rattle.laws.specs.Runs.{stop}
use Rattle.text_base.proofs.blank_end.Given as goal

abbrev pub invariant-loop-i : goal.invariant-loop-i
invariant-loop-i l = stop blank l.s l.i ≡ stop blank l.s l.initial.i

abbrev pub decreases-loop-i : goal.decreases-loop-i
decreases-loop-i l = length l.s - l.i
