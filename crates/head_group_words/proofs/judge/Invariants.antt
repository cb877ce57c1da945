-- `head_group_words::judge` meets its contract: the counts from k on pass no limit.
use mathlib.Core.Path.{◌≡◌}
use Prim.Native.Nat.{◌≤◌}
use Rattle.head_group_words.specs.Groups.{many_at}
use Rattle.head_group_words.proofs.judge.Given as goal

abbrev pub invariant-loop-k : goal.invariant-loop-k
invariant-loop-k l = (l.k ≤ 8) × (many_at l.words l.at l.width l.limit 8 ≡ many_at l.words l.at l.width l.limit l.k)
