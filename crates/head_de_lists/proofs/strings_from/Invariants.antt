-- `head_de_lists::strings_from` meets its contract. The invariant: what is left gives the answer.
use Rattle.written.specs.Bytes.{Span}
use mathlib.Core.List.{List}
use Prim.Native.Nat.{◌-◌}
use lib.ListN.{length}
use Rattle.head_de.specs.Readings.{of_text}
use Rattle.head_de.specs.Values.{delimiters_of, text_at}
use Rattle.head_de_lists.proofs.Going.{Going}
use Rattle.head_de_lists.specs.Lists.{spans_of}
use mathlib.Core.Path.{◌≡◌}
use Rattle.head_de_lists.proofs.strings_from.Given as goal

abbrev pub invariant-loop-item : goal.invariant-loop-item
invariant-loop-item l = (items : List Span) × (l.list ≡ spans_of items) × Going (λ i. of_text (text_at (delimiters_of l.inner) l.s i)) (delimiters_of l.outer) l.s l.initial.at.at l.at.at items

abbrev pub decreases-loop-item : goal.decreases-loop-item
decreases-loop-item l = length l.s - l.at.at
