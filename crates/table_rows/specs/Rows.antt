-- The rows of lent tables (01, 'Linking and tables'; 02, Wish 10): what each place of a row is called, and which rows there are. A table has length div
-- width rows; a rest is never read.
use Rattle.std.specs.Prelude.{◌≡◌, Bool, true, ◌&&◌, List, [], ◌∷◌, ℕ, zero, suc, ◌+◌, ◌-◌, ◌*◌, ◌/◌, min, ltb, length, get_or}
use Rattle.written.specs.Linking.{Row, Nth}

-- ---- question: name start, length, first pattern, patterns

abbrev pub question_rows : List ℕ → ℕ
question_rows Q = length Q / 4

abbrev pub question_there : List ℕ → ℕ → Bool
question_there Q q = ltb q (question_rows Q)

abbrev pub question_start : List ℕ → ℕ → ℕ
question_start Q q = get_or Q (4 * q) 0

abbrev pub question_len : List ℕ → ℕ → ℕ
question_len Q q = get_or Q (4 * q + 1) 0

abbrev pub question_first : List ℕ → ℕ → ℕ
question_first Q q = get_or Q (4 * q + 2) 0

abbrev pub question_patterns : List ℕ → ℕ → ℕ
question_patterns Q q = get_or Q (4 * q + 3) 0

-- ---- pattern: start, length

abbrev pub pattern_rows : List ℕ → ℕ
pattern_rows P = length P / 2

abbrev pub pattern_start : List ℕ → ℕ → ℕ
pattern_start P p = get_or P (2 * p) 0

abbrev pub pattern_len : List ℕ → ℕ → ℕ
pattern_len P p = get_or P (2 * p + 1) 0

-- ---- tree: state, first record, records, lines, first value, entries

abbrev pub tree_rows : List ℕ → ℕ
tree_rows T = length T / 6

abbrev pub tree_there : List ℕ → ℕ → Bool
tree_there T t = ltb t (tree_rows T)

abbrev pub tree_state : List ℕ → ℕ → ℕ
tree_state T t = get_or T (6 * t) 0

abbrev pub tree_first : List ℕ → ℕ → ℕ
tree_first T t = get_or T (6 * t + 1) 0

abbrev pub tree_records : List ℕ → ℕ → ℕ
tree_records T t = get_or T (6 * t + 2) 0

abbrev pub tree_lines : List ℕ → ℕ → ℕ
tree_lines T t = get_or T (6 * t + 3) 0

abbrev pub tree_value : List ℕ → ℕ → ℕ
tree_value T t = get_or T (6 * t + 4) 0

abbrev pub tree_entries : List ℕ → ℕ → ℕ
tree_entries T t = get_or T (6 * t + 5) 0

-- ---- record: (0, question, yes, no) or (1, PDF number, 0, 0)

abbrev pub record_rows : List ℕ → ℕ
record_rows R = length R / 4

-- record k of a tree that has `count` records from `first` on: among them, and in the table
abbrev pub record_there : List ℕ → ℕ → ℕ → ℕ → Bool
record_there R first count k = ltb k count && ltb (first + k) (record_rows R)

-- how many of them stand in the table: the smaller of their count and the rows from the first on
abbrev pub records_in : List ℕ → ℕ → ℕ → ℕ
records_in R first count = min count (record_rows R - first)

abbrev pub record_kind : List ℕ → ℕ → ℕ
record_kind R i = get_or R (4 * i) 0

abbrev pub record_question : List ℕ → ℕ → ℕ
record_question R i = get_or R (4 * i + 1) 0

abbrev pub record_pdf : List ℕ → ℕ → ℕ
record_pdf R i = get_or R (4 * i + 1) 0

abbrev pub record_yes : List ℕ → ℕ → ℕ
record_yes R i = get_or R (4 * i + 2) 0

abbrev pub record_no : List ℕ → ℕ → ℕ
record_no R i = get_or R (4 * i + 3) 0

-- ---- tables as rows

abbrev pub question_row : List ℕ → ℕ → Row
question_row Q q = question_start Q q ∷ question_len Q q ∷ question_first Q q ∷ question_patterns Q q ∷ []

abbrev pub pattern_row : List ℕ → ℕ → Row
pattern_row P p = pattern_start P p ∷ pattern_len P p ∷ []

abbrev pub tree_row : List ℕ → ℕ → Row
tree_row T t = tree_state T t ∷ tree_first T t ∷ tree_records T t ∷ tree_lines T t ∷ tree_value T t ∷ tree_entries T t ∷ []

abbrev pub record_row : List ℕ → ℕ → Row
record_row R i = record_kind R i ∷ record_question R i ∷ record_yes R i ∷ record_no R i ∷ []

-- n rows, from row i on
unfoldable pub rows_from : (ℕ → Row) → ℕ → ℕ → List Row
rows_from row i zero = []
rows_from row i (suc n) = row i ∷ rows_from row (suc i) n

unfoldable pub question_table : List ℕ → List Row
question_table Q = rows_from (question_row Q) 0 (question_rows Q)

unfoldable pub pattern_table : List ℕ → List Row
pattern_table P = rows_from (pattern_row P) 0 (pattern_rows P)

unfoldable pub tree_table : List ℕ → List Row
tree_table T = rows_from (tree_row T) 0 (tree_rows T)

unfoldable pub record_table : List ℕ → List Row
record_table R = rows_from (record_row R) 0 (record_rows R)

-- trees stand in a table, from its first row on
pub record TreesStand (T : List ℕ) (rows : List Row) : Type 0 where
  pub each : (k : ℕ) (r : Row) → Nth rows k r → (tree_there T k ≡ true) × (r ≡ tree_row T k)

-- records stand in a table, from its row `first` on
pub record Standing (R : List ℕ) (first : ℕ) (rows : List Row) : Type 0 where
  pub each : (k : ℕ) (r : Row) → Nth rows k r → (ltb (first + k) (record_rows R) ≡ true) × (r ≡ record_row R (first + k))

-- the tables have a tree t with these records
pub record HasTree (T R : List ℕ) (t : ℕ) (rows : List Row) : Type 0 where
  pub there : tree_there T t ≡ true
  pub count : tree_records T t ≡ length rows
  pub stands : Standing R (tree_first T t) rows
