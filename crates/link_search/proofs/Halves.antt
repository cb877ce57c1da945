-- The library's search by halves, over any test that falls.
use mathlib.Core.Path.{◌≡◌, ap, ◌∙◌}
use mathlib.Core.Bool.{Bool, true, false}
use mathlib.Core.List.{List}
use Prim.Native.Nat.{ℕ, ◌≤◌}
use native.Mathlib.Omega.{arith}
use lib.ListN.{length}
use Rattle.std.specs.List.Sorted.{IsPartitionedBy, IsPartitionPoint}
use Rattle.std.proofs.lemmas.List.{get_or_default}
use Rattle.link_search.specs.Parted.{Falls, Parted}

module _ (p : ℕ → Bool) (t : List ℕ) where
  pub falls_parts : Falls p t → IsPartitionedBy p t
  falls_parts f i j d h k e = ap p (get_or_default t i d 0 (omega arith)) ∙ f i j h k (ap p (get_or_default t j 0 d k) ∙ e)

  pub parted_at : (r : ℕ) → r ≤ length t → IsPartitionPoint (λ y. p y ≡ true) (λ y. p y ≡ false) t r → Parted p t r
  parted_at r h q = record { within = h; front = λ i l. q.0 i 0 (omega arith) l; behind = λ i l k. q.1 i 0 l k }
