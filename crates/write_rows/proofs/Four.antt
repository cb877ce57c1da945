-- What a text says of the rows of a tree table: the first four numbers of each.
use mathlib.Core.Path.{◌≡◌, refl, ap}
use mathlib.Core.List.{List, [], ◌∷◌, map}
use Prim.Native.Nat.{ℕ, zero, suc}
use lib.ListN.{take}
use Rattle.written.specs.Linking.{Row}
use Rattle.written.specs.Writing.{first_four}
use Rattle.table_rows.specs.Rows.{tree_rows, tree_state, tree_first, tree_records, tree_lines, tree_row, tree_table, rows_from}

abbrev pub text_row : List ℕ → ℕ → Row
text_row T t = tree_state T t ∷ tree_first T t ∷ tree_records T t ∷ tree_lines T t ∷ []

map_rows : (f : Row → Row) (row : ℕ → Row) (i n : ℕ) → map f (rows_from row i n) ≡ rows_from (λ (k : ℕ). f (row k)) i n
unfolding rows_from
map_rows f row i zero = refl
map_rows f row i (suc n) = ap (λ (l : List Row). f (row i) ∷ l) (map_rows f row (suc i) n)

pub text_rows : (T : List ℕ) → first_four (tree_table T) ≡ rows_from (text_row T) 0 (tree_rows T)
unfolding tree_table
text_rows T = map_rows (take 4) (tree_row T) 0 (tree_rows T)
