-- `text_base::newline_end`: the place where the run stops is the same from each place that the loop passes.
use Rattle.std.proofs.Common.{◌≡◌}
use Rattle.written.specs.Bytes.{is_newline}
use Rattle.laws.specs.Runs.{stop}
use Rattle.text_base.proofs.newline_end.Given as goal

abbrev pub invariant-loop-i : goal.invariant-loop-i
invariant-loop-i l = stop is_newline l.s l.i ≡ stop is_newline l.s l.at
