-- `head_sections::next_break` meets its contract. The place is the same from each place that the loop passes.
use Rattle.head_sections.specs.Split.{break_at}
use lib.ListN.{length}
use Prim.Native.Nat.{◌-◌}
use mathlib.Core.Path.{◌≡◌}
use Rattle.head_sections.proofs.next_break.Given as goal

abbrev pub invariant-loop-i : goal.invariant-loop-i
invariant-loop-i l = break_at l.s l.initial.i ≡ break_at l.s l.i

abbrev pub decreases-loop-i : goal.decreases-loop-i
decreases-loop-i l = length l.s - l.i
