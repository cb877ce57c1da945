-- `head_global::read_global` meets its contract. The invariant: what is left gives the answer, and the words are what the lines so far make of them.
--
use mathlib.Core.Path.{◌≡◌}
use mathlib.Core.List.{List}
use Prim.Native.Nat.{◌-◌}
use lib.ListN.{length}
use lib.Seq.{sets}
use Rattle.written.specs.HeaderText.{Entry}
use Rattle.written.specs.Record.{global_fields}
use Rattle.head_record.specs.Empty.{empty_global}
use Rattle.head_words.specs.Words.{global_words}
use Rattle.head_lines.specs.Lines.{kept}
use Rattle.head_lines.proofs.Going.{Going}
use Rattle.head_global.specs.Global.{with_line}
use Rattle.head_global.proofs.read_global.Given as goal

abbrev pub invariant-loop-line : goal.invariant-loop-line
invariant-loop-line l =
    (xs : List Entry) × (l.words ≡ sets l.initial.words 0 (global_words (kept with_line empty_global xs))) × Going global_fields l.s l.start l.at.at l.seen xs

abbrev pub decreases-loop-line : goal.decreases-loop-line
decreases-loop-line l = length l.s - l.at.at
