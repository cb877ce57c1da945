-- `text_numbers::parse_rest`. The invariant: the answer is the one that the digits from i on give, after those that said `value`.
use Prim.Native.Nat.{◌^◌, ◌<◌, ◌≤◌, max}
use mathlib.Core.Path.{◌≡◌}
use lib.ListN.{length}
use Rattle.text_numbers.specs.Answers.{unsigned_from}
use Rattle.text_numbers.proofs.parse_rest.Given as goal

abbrev pub invariant-loop-i : goal.invariant-loop-i
invariant-loop-i l = (unsigned_from l.said l.s l.at ≡ unsigned_from l.value l.s l.i) × (l.value < 2 ^ 64) × (l.i ≤ max l.at (length l.s))
