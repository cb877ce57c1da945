-- The leaf check by computation: the conditions, one test each.
use Rattle.std.specs.Prelude.{Bool, false, cond, ◌&&◌, ◌||◌, List, ℕ, ◌+◌, ◌*◌, ltb, leb, eqb, length}
use Rattle.laws.specs.Every.{all}
use Rattle.table_rows.specs.Rows.{question_there, tree_rows, tree_first, tree_records, record_there, record_kind, record_question, record_pdf, record_yes, record_no, tree_value, tree_entries}
use Rattle.walk_leaves.specs.Conditions.{leaf_fits}

unfoldable pub line_fits : List ℕ → List ℕ → ℕ → ℕ → Bool
line_fits questions records count i = question_there questions (record_question records i) && (ltb (record_yes records i) count && ltb (record_no records i) count)

-- a record at row i: a line, a leaf, or of another kind
unfoldable pub kind_fits : List ℕ → List ℕ → ℕ → ℕ → ℕ → Bool
kind_fits questions records count entries i =
    cond (eqb (record_kind records i) 0) (line_fits questions records count i) (cond (eqb (record_kind records i) 1) (leaf_fits (record_pdf records i) entries) false)

-- record k of a tree with `count` records from `first` on
unfoldable pub record_fits : List ℕ → List ℕ → ℕ → ℕ → ℕ → ℕ → Bool
record_fits questions records first count entries k = record_there records first count k && kind_fits questions records count entries (first + k)

-- none, or they end inside
unfoldable pub values_fit : List ℕ → ℕ → ℕ → ℕ → Bool
values_fit values first entries width = eqb (entries * width) 0 || leb (first + entries * width) (length values)

unfoldable pub tree_fits : List ℕ → List ℕ → List ℕ → List ℕ → ℕ → ℕ → Bool
tree_fits questions trees records values width t =
    values_fit values (tree_value trees t) (tree_entries trees t) width
    && all (record_fits questions records (tree_first trees t) (tree_records trees t) (tree_entries trees t)) 0 (tree_records trees t)

unfoldable pub leaves_fit : List ℕ → List ℕ → List ℕ → List ℕ → ℕ → Bool
leaves_fit questions trees records values width = all (tree_fits questions trees records values width) 0 (tree_rows trees)
