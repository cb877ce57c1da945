-- 17 of trees and records, by computation (02, Wish 6): which records a text reads back to. f is the row of a tree's first record, m its records, n its
-- lines.
use Rattle.std.specs.Prelude.{Bool, not, cond, ◌&&◌, ◌||◌, List, ℕ, zero, suc, ◌+◌, ◌-◌, ltb, leb, eqb}
use Rattle.laws.specs.Every.{all}
use Rattle.table_rows.specs.Rows.{tree_rows, tree_state, tree_first, tree_records, tree_lines, record_rows, record_kind, record_pdf, record_yes, record_no}
use Rattle.write_records.specs.Records.{of_record}
use Rattle.write_questions.specs.Tests.{questions_fit, none_hidden}
use Rattle.write_counts.specs.Counts.{first_leaf, counted}

-- ---- leaves

-- (1, number, 0, 0), with a number that a text can have
unfoldable pub leaf_at : List ℕ → ℕ → ℕ → Bool
leaf_at R f k =
    eqb (of_record record_kind R f k) 1 && (ltb (of_record record_pdf R f k) 9223372036854775808 && (eqb (of_record record_yes R f k) 0 && eqb (of_record record_no R f k) 0))

-- record k behind the lines: a leaf, and not below the one before it
unfoldable pub leaf_in : List ℕ → ℕ → ℕ → ℕ → Bool
leaf_in R f n k = leaf_at R f k && (eqb k n || leb (of_record record_pdf R f (k - 1)) (of_record record_pdf R f k))

-- ---- lines

-- a reference to record k: a line, or the first leaf of its number
unfoldable pub ref_in : List ℕ → ℕ → ℕ → ℕ → ℕ → Bool
ref_in R f m n k = ltb k m && (ltb k n || first_leaf R f n k)

unfoldable pub line_in : List ℕ → ℕ → ℕ → ℕ → ℕ → Bool
line_in R f m n k = eqb (of_record record_kind R f k) 0 && (ref_in R f m n (of_record record_yes R f k) && ref_in R f m n (of_record record_no R f k))

-- one line with two like references would read back as a bare leaf
unfoldable pub unlike : List ℕ → ℕ → ℕ → Bool
unlike R f n = not (eqb n 1 && eqb (of_record record_yes R f 0) (of_record record_no R f 0))

-- ---- trees

unfoldable pub bare_in : List ℕ → ℕ → ℕ → Bool
bare_in R f m = eqb m 0 || (eqb m 1 && leaf_at R f 0)

unfoldable pub lines_in : List ℕ → ℕ → ℕ → ℕ → Bool
lines_in R f m n = leb n m && (unlike R f n && (all (line_in R f m n) 0 n && (all (leaf_in R f n) n (m - n) && all (counted R f m n) n (m - n))))

unfoldable pub body_in : List ℕ → ℕ → ℕ → ℕ → Bool
body_in R f m n = cond (eqb n 0) (bare_in R f m) (lines_in R f m n)

-- tree t has a state that a text can have, and its records begin behind the k of the trees before it
unfoldable pub tree_in : List ℕ → List ℕ → ℕ → ℕ → Bool
tree_in T R k t =
    ltb (tree_state T t) 9223372036854775808
    && (eqb (tree_first T t) k && (leb (k + tree_records T t) (record_rows R) && body_in R (tree_first T t) (tree_records T t) (tree_lines T t)))

-- n trees, from tree t on; in the end all records are used
unfoldable pub grown : List ℕ → List ℕ → ℕ → ℕ → ℕ → Bool
grown T R k t zero = eqb k (record_rows R)
grown T R k t (suc n) = tree_in T R k t && grown T R (k + tree_records T t) (suc t) n

-- all rows
unfoldable pub links_fit : List ℕ → List ℕ → List ℕ → List ℕ → List ℕ → Bool
links_fit d Q P T R = ltb 0 (tree_rows T) && (questions_fit Q P && (grown T R 0 0 (tree_rows T) && none_hidden d Q R))
