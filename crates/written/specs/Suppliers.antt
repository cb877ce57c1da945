-- Records from the voice maker (document 02, Wish 13): whether somebody else's rows are accepted for a tree of a text.
-- The rows that are accepted are just `Linked`: it has the wish's conditions one by one.
use Rattle.std.specs.Prelude.{List, ℕ}
use Rattle.written.specs.Said.{Tree, Text, Layout}
use Rattle.written.specs.TreeText.{Says}
use Rattle.written.specs.Breaks.{Breaks}
use Rattle.written.specs.Linking.{Nth, Row, Linked, Records, Refused}
use Rattle.written.specs.Tables.{Negative}

-- number, place, line, for tree t of what a text says
pub data Accepts (x : Text) (rows : List Row) (t : ℕ) : ℕ → ℕ → ℕ → Type 0 where
  negative : Negative x.trees → Accepts x rows t 18 0 0
  missing : ¬ Negative x.trees → ((e : Tree) → ¬ Nth x.trees t e) → Accepts x rows t 24 0 0
  unlinked : {e : Tree} {c k : ℕ} → ¬ Negative x.trees → Nth x.trees t e → Refused x.questions e.body c k → Accepts x rows t c t k
  accepted : {e : Tree} {own : List Row}
      → ¬ Negative x.trees → Nth x.trees t e → Records x.questions e.body own → Linked x.questions e.body rows → Accepts x rows t 0 0 0
  other : {e : Tree} {own : List Row}
      → ¬ Negative x.trees → Nth x.trees t e → Records x.questions e.body own → ¬ Linked x.questions e.body rows → Accepts x rows t 37 0 0

-- the text is s from i on; one that breaks says where (Wish 2)
pub data AcceptsIn (s : List ℕ) (i : ℕ) (rows : List Row) (t : ℕ) : ℕ → ℕ → ℕ → Type 0 where
  breaks : {p : ℕ} → Breaks s i p → AcceptsIn s i rows t 17 p 0
  says : {x : Text} {u : Layout} {c p k : ℕ} → Says s i x u → Accepts x rows t c p k → AcceptsIn s i rows t c p k
