-- The records of a tree as rows, and what stands at one of them.
use Rattle.std.specs.Prelude.{cond, List, ℕ, ◌+◌, eqb, take, drop}
use Rattle.written.specs.Linking.{Row}
use Rattle.table_rows.specs.Rows.{record_table, record_there, record_kind, record_yes, record_no}
use Rattle.walk_reach.specs.declared.Seen.{Seen}
use Rattle.walk_reach.specs.declared.Seen.TheVariants.{Leaf, Line, Wrong}

-- the records of a tree that has `count` from `first` on: as many as the table holds
abbrev pub tree_records_of : List ℕ → ℕ → ℕ → List Row
tree_records_of R first count = take count (drop first (record_table R))

-- a record at row i: a line, a leaf, or of another kind
unfoldable pub kind_seen : List ℕ → ℕ → Seen
kind_seen R i = cond (eqb (record_kind R i) 0) (Line (record_yes R i) (record_no R i)) (cond (eqb (record_kind R i) 1) Leaf Wrong)

-- record k of such a tree
unfoldable pub seen_at : List ℕ → ℕ → ℕ → ℕ → Seen
seen_at R first count k = cond (record_there R first count k) (kind_seen R (first + k)) Wrong
