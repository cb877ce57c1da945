-- `house_text::ids_run` meets its contract.
use Prim.Native.Nat.{ℕ, ◌-◌}
use lib.ListN.{length}
use Rattle.house_text.specs.Text.{body_ids}
use Rattle.house_text.proofs.Laws.{Judging}
use Rattle.house_text.proofs.ids_run.Given as goal

abbrev pub invariant-loop-next : goal.invariant-loop-next
invariant-loop-next l = (k : ℕ) × Judging l.s (λ k b. body_ids b) l.at k l.i

abbrev pub decreases-loop-next : goal.decreases-loop-next
decreases-loop-next l = length l.s - l.i
