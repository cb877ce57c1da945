-- `text_utf8::check` meets its contract. The loop's invariant: what `scan` answers from `i` on is the answer for the whole.
use mathlib.Core.Path.{◌≡◌}
use Prim.Native.Nat.{◌≤◌, ◌-◌}
use lib.ListN.{length, drop}
use Rattle.text_utf8.specs.Check.{check_of, scan}
use Rattle.text_utf8.proofs.check.Given as goal

abbrev pub invariant-loop-i : goal.invariant-loop-i
invariant-loop-i l = (l.i ≤ length l.s) × (check_of l.s ≡ scan 0 l.i (drop l.i l.s))

abbrev pub decreases-loop-i : goal.decreases-loop-i
decreases-loop-i l = length l.s - l.i
