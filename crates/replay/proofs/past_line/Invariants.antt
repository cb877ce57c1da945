-- `replay::past_line`: no newline stands before the place.
use Rattle.std.proofs.Common.{◌≡◌, true, false, drop}
use Rattle.replay.specs.Lines.{lines_of}
use Rattle.replay.proofs.past_line.Given as goal

abbrev pub invariant-loop-i : goal.invariant-loop-i
invariant-loop-i l = lines_of true (drop l.i l.s) ≡ lines_of false (drop l.fn.from l.s)
