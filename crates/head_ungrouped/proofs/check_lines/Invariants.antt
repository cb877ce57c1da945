-- `head_ungrouped::check_lines` meets its contract. The invariant: what is left gives the answer.
use Rattle.head_lines.proofs.Going.{Going}
use Rattle.head_lines.specs.Lines.{unseen}
use Rattle.written.specs.Record.{stream_fields}
use Rattle.written.specs.HeaderText.{Entry}
use mathlib.Core.List.{List}
use lib.ListN.{length}
use Prim.Native.Nat.{◌-◌}
use Rattle.head_ungrouped.proofs.check_lines.Given as goal

abbrev pub invariant-loop-line : goal.invariant-loop-line
invariant-loop-line l = (xs : List Entry) × Going stream_fields l.s l.start l.at.at unseen xs

abbrev pub decreases-loop-line : goal.decreases-loop-line
decreases-loop-line l = length l.s - l.at.at
