-- `trail_plan::entries_before`: the sum so far and that of what is left is the whole.
use mathlib.Core.Path.{◌≡◌}
use Prim.Native.Nat.{◌+◌, ◌*◌, ◌-◌}
use Rattle.written.specs.Blocks.{total}
use Rattle.pdf_blocks.specs.Values.{words_at}
use Rattle.trail_plan.proofs.entries_before.Given as goal

abbrev pub invariant-loop-t : goal.invariant-loop-t
invariant-loop-t l = l.sum + total (words_at l.s (l.at + 4 * l.t) (l.k - l.t)) ≡ total (words_at l.s l.at l.k)
