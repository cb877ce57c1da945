-- Rows from the voice maker (02, Wish 13): all rows that a load writes are accepted.
use mathlib.Core.List.{List}
use Prim.Native.Nat.{ℕ}
use Rattle.written.specs.Said.{Tree, Text}
use Rattle.written.specs.Linking.{Nth, Row, Records}
use Rattle.written.specs.Tables.{Negative}
use Rattle.written.specs.Suppliers.{Accepts}
use Rattle.written.proofs.Link.{records_linked}

pub own_accepted : {x : Text} {rows : List Row} {t : ℕ} {e : Tree} → ¬ Negative x.trees → Nth x.trees t e → Records x.questions e.body rows → Accepts x rows t 0 0 0
own_accepted n h r = Accepts.accepted n h r (records_linked r)
