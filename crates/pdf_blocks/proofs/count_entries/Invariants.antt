-- `pdf_blocks::count_entries`: the sum so far and that of what is left is the whole.
use mathlib.Core.Path.{◌≡◌}
use Prim.Native.Nat.{◌+◌, ◌*◌, ◌-◌, ◌≤◌}
use Rattle.written.specs.Blocks.{total}
use Rattle.pdf_blocks.specs.Values.{words_at}
use Rattle.pdf_blocks.proofs.count_entries.Given as goal

abbrev pub invariant-loop-k : goal.invariant-loop-k
invariant-loop-k l = (l.sum + total (words_at l.s (l.at + 4 * l.k) (l.trees - l.k)) ≡ total (words_at l.s l.at l.trees)) × (l.sum ≤ l.most)
