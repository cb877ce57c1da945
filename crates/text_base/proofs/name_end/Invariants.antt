-- `text_base::name_end`: the place where the run stops is the same from each place that the loop passes, over the printed bytes ahead too.
use Rattle.std.proofs.Common.{◌≡◌, ◌-◌, length}
use Rattle.written.specs.Bytes.{in_name}
use Rattle.laws.specs.Runs.{stop}
use Rattle.text_base.proofs.name_end.Given as goal

abbrev pub invariant-loop-i : goal.invariant-loop-i
invariant-loop-i l = stop in_name l.s l.i ≡ stop in_name l.s l.initial.i

abbrev pub decreases-loop-i : goal.decreases-loop-i
decreases-loop-i l = length l.s - l.i
