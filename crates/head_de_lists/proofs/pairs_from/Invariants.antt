-- `head_de_lists::pairs_from` meets its contract. The invariant: what is left gives the answer.
use Rattle.written.specs.HeaderText.{Range}
use mathlib.Core.List.{List}
use Prim.Native.Nat.{◌-◌}
use lib.ListN.{length}
use Rattle.head_de.specs.Readings.{of_pair}
use Rattle.head_de.specs.Values.{delimiters_of, pair_at}
use Rattle.head_de_lists.proofs.Going.{Going}
use Rattle.head_de_lists.specs.Lists.{ranges_of}
use mathlib.Core.Path.{◌≡◌}
use Rattle.head_de_lists.proofs.pairs_from.Given as goal

abbrev pub invariant-loop-item : goal.invariant-loop-item
invariant-loop-item l = (items : List Range) × (l.list ≡ ranges_of items) × Going (λ i. of_pair (pair_at (delimiters_of l.inner) l.s i)) (delimiters_of l.outer) l.s l.initial.at.at l.at.at items

abbrev pub decreases-loop-item : goal.decreases-loop-item
decreases-loop-item l = length l.s - l.at.at
