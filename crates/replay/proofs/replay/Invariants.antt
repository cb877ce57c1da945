-- `replay::replay`: the place goes up, and the lines behind it are those that are still to be counted.
use Rattle.std.proofs.Common.{◌≡◌, ◌+◌, ◌-◌, ◌≤◌, length, drop}
use Rattle.replay.specs.Lines.{lines}
use Rattle.replay.proofs.replay.Given as goal

abbrev pub invariant-loop-at : goal.invariant-loop-at
invariant-loop-at g l = record {
  within : l.at ≤ length l.s;
  some : l.differ ≤ l.cases;
  fits : l.cases ≤ l.at;
  every : l.cases + lines (drop l.at l.s) ≡ lines l.s;
}

abbrev pub decreases-loop-at : goal.decreases-loop-at
decreases-loop-at g l = length l.s - l.at
