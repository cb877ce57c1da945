-- `text_base::space_or_tab_end`: the place where the run stops is the same from each place that the loop passes.
use Rattle.std.proofs.Common.{◌≡◌}
use Rattle.written.specs.Bytes.{space_or_tab}
use Rattle.laws.specs.Runs.{stop}
use Rattle.text_base.proofs.space_or_tab_end.Given as goal

abbrev pub invariant-loop-i : goal.invariant-loop-i
invariant-loop-i l = stop space_or_tab l.s l.i ≡ stop space_or_tab l.s l.at
