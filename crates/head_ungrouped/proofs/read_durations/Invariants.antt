-- `head_ungrouped::read_durations` meets its contract. The invariant: what is left gives the answer, and what is kept is what the lines so far make of it.
use Rattle.head_lines.proofs.Going.{Going}
use Rattle.head_lines.specs.Lines.{kept}
use Rattle.head_ungrouped.specs.Ungrouped.{no_durations, with_line}
use Rattle.written.specs.Record.{position_fields}
use Rattle.written.specs.HeaderText.{Entry}
use lib.ListN.{length}
use mathlib.Core.List.{List}
use Prim.Native.Nat.{◌-◌}
use mathlib.Core.Path.{◌≡◌}
use Rattle.head_ungrouped.proofs.read_durations.Given as goal

abbrev pub invariant-loop-line : goal.invariant-loop-line
invariant-loop-line l = (xs : List Entry) × (l.durations ≡ kept with_line no_durations xs) × Going position_fields l.s l.start l.at.at l.seen xs

abbrev pub decreases-loop-line : goal.decreases-loop-line
decreases-loop-line l = length l.s - l.at.at
