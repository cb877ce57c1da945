-- `text_base::pattern_end`: the place where the run stops is the same from each place that the loop passes.
use Rattle.std.proofs.Common.{◌≡◌}
use Rattle.written.specs.Bytes.{in_pattern}
use Rattle.laws.specs.Runs.{stop}
use Rattle.text_base.proofs.pattern_end.Given as goal

abbrev pub invariant-loop-i : goal.invariant-loop-i
invariant-loop-i l = stop in_pattern l.s l.i ≡ stop in_pattern l.s l.at
