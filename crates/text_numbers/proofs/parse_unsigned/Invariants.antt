-- `text_numbers::parse_unsigned`. The invariant: the answer is the one that the digits from i on give, after those that said `value`, and these are few.
use Prim.Native.Nat.{ℕ, ◌+◌, ◌-◌, ◌≤◌, ◌<◌}
use mathlib.Core.Path.{◌≡◌}
use mathlib.Core.List.{List}
use lib.ListN.{length}
use Rattle.text_numbers.specs.Answers.{unsigned_at, unsigned_from}
use Rattle.text_numbers.proofs.Numbers.{tens}
use Rattle.text_numbers.proofs.parse_unsigned.Given as goal

pub record Few (s : List ℕ) (at most value i : ℕ) : Type 0 where
  pub answer : unsigned_at s at ≡ unsigned_from value s i
  pub from : at ≤ i
  pub inside : most ≤ length s
  pub few : most ≤ at + 19
  pub small : value < tens (i - at)

abbrev pub invariant-loop-i : goal.invariant-loop-i
invariant-loop-i l = Few l.s l.at l.most l.value l.i
