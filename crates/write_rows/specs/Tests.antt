-- 24 by computation (02, Wish 6): whether all that rows point at stands inside its table or the data, one test each.
use Rattle.std.specs.Prelude.{Bool, true, cond, ◌&&◌, ◌||◌, List, ℕ, ◌+◌, ltb, leb, eqb, length}
use Rattle.laws.specs.Every.{all}
use Rattle.table_rows.specs.Rows.{question_rows, question_there, question_start, question_len, question_first, question_patterns, pattern_rows, pattern_start, pattern_len, tree_rows, tree_first, tree_records, record_rows, record_kind, record_question, record_yes, record_no}

-- n things from a on stand among m: there are none, or the last of them does
unfoldable pub among : ℕ → ℕ → ℕ → Bool
among a n m = eqb n 0 || leb (a + n) m

unfoldable pub question_in : List ℕ → List ℕ → List ℕ → ℕ → Bool
question_in d Q P q = among (question_start Q q) (question_len Q q) (length d) && among (question_first Q q) (question_patterns Q q) (pattern_rows P)

unfoldable pub pattern_in : List ℕ → List ℕ → ℕ → Bool
pattern_in d P p = among (pattern_start P p) (pattern_len P p) (length d)

-- a record of kind 0, in a tree or not: its question
unfoldable pub asks_in : List ℕ → List ℕ → ℕ → Bool
asks_in Q R i = cond (eqb (record_kind R i) 0) (question_there Q (record_question R i)) true

-- record k of a tree whose first stands in row f; and where it goes, if it is of kind 0
unfoldable pub goes_in : List ℕ → ℕ → ℕ → Bool
goes_in R f k =
    ltb (f + k) (record_rows R) && cond (eqb (record_kind R (f + k)) 0) (ltb (f + record_yes R (f + k)) (record_rows R) && ltb (f + record_no R (f + k)) (record_rows R)) true

unfoldable pub tree_in : List ℕ → List ℕ → ℕ → Bool
tree_in T R t = all (goes_in R (tree_first T t)) 0 (tree_records T t)

unfoldable pub rows_in : List ℕ → List ℕ → List ℕ → List ℕ → List ℕ → Bool
rows_in d Q P T R =
    all (question_in d Q P) 0 (question_rows Q) && (all (pattern_in d P) 0 (pattern_rows P) && (all (asks_in Q R) 0 (record_rows R) && all (tree_in T R) 0 (tree_rows T)))
