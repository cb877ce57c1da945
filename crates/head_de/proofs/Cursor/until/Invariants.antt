-- `head_de::Cursor::until` meets its contract. The place where the run stops is the same from each place that the loop passes.
use Rattle.laws.specs.Runs.{stop}
use lib.ListN.{length}
use Prim.Native.Nat.{◌-◌}
use Rattle.written.specs.Bytes.{none_of}
use Rattle.head_de.specs.Values.{delimiters_of}
use mathlib.Core.Path.{◌≡◌}
use Rattle.head_de.proofs.Cursor.until.Given as goal

abbrev pub invariant-loop-i : goal.invariant-loop-i
invariant-loop-i l = stop (none_of (delimiters_of l.d)) l.s l.i ≡ stop (none_of (delimiters_of l.d)) l.s l.initial.i

abbrev pub decreases-loop-i : goal.decreases-loop-i
decreases-loop-i l = length l.s - l.i
