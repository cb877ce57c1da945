-- `tree_reference::parse_pdf`. The invariant: the word ends where it did, and `start` is where the digits at the end of what was passed begin.
use mathlib.Core.Path.{◌≡◌}
use mathlib.Core.List.{List}
use Prim.Native.Nat.{ℕ, ◌-◌, ◌≤◌}
use lib.ListN.{length}
use Rattle.written.specs.Bytes.{in_word}
use Rattle.laws.specs.Runs.{stop}
use Rattle.tree_reference.specs.References.{digits_from}
use Rattle.tree_reference.proofs.parse_pdf.Given as goal

pub record Passed (s : List ℕ) (at start i : ℕ) : Type 0 where
  pub from : at ≤ i
  pub same : stop in_word s i ≡ stop in_word s at
  pub digits : start ≡ digits_from s at i

abbrev pub invariant-loop-i : goal.invariant-loop-i
invariant-loop-i l = Passed l.s l.at l.start l.i

abbrev pub decreases-loop-i : goal.decreases-loop-i
decreases-loop-i l = length l.s - l.i
