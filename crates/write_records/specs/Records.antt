-- The row of record k of a tree whose first record stands in row f, and a number that stands there; 0 where the table has no such row.
use Rattle.std.specs.Prelude.{cond, List, ℕ, ◌+◌, ltb, Option, Some, None}
use Rattle.table_rows.specs.Rows.{record_rows}

abbrev pub row_of : List ℕ → ℕ → ℕ → Option ℕ
row_of R f k = cond (ltb (f + k) (record_rows R)) (Some (f + k)) None

unfoldable pub of_record : (List ℕ → ℕ → ℕ) → List ℕ → ℕ → ℕ → ℕ
of_record field R f k = cond (ltb (f + k) (record_rows R)) (field R (f + k)) 0
