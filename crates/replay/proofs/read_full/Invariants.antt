-- `replay::read_full`: what was read stands at the room's start, and each turn read a byte at least.
use Rattle.std.proofs.Common.{◌≡◌, ◌≤◌, length, take}
use Rattle.std.specs.Io.KnownBytes.{Consumes}
use Rattle.replay.proofs.read_full.Given as goal

abbrev pub invariant-loop : goal.invariant-loop
invariant-loop g l = record {
  in_bounds : l.n ≤ length l.room;
  turns : l.counter ≤ l.n;
  same_room : length l.room ≡ length l.fn.room;
  bytes : Consumes (g.R.Read.remaining l.fn.input) (g.R.Read.remaining l.input) (take l.n l.room);
}
