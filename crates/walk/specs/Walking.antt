-- The walk over flat tables, by computation (01, 'Linking and tables'): records are judged as they are met, inside the tree's records and
-- the table, then kind, then answer byte, then limit.
use Rattle.error.specs.declared.Refusal.{Refusal}
use Rattle.walk.specs.declared.Walked.{Walked}
use Rattle.std.specs.declared.result.Result.{Result}
use Rattle.std.specs.Prelude.{Bool, cond, List, ℕ, zero, suc, ◌+◌, ltb, eqb, length, get_or, Ok, Err}
use Rattle.written.specs.Walks.{chosen, is_yes}
use Rattle.error.specs.declared.Refusal.TheVariants.{WalkTable, Steps}
use Rattle.table_rows.specs.Rows.{tree_there, tree_first, tree_records, record_there, record_kind, record_question, record_pdf, record_yes, record_no}
use Rattle.walk.specs.declared.Met.{Met}
use Rattle.walk.specs.declared.Met.TheVariants.{Leaf, Line, Wrong}

abbrev pub walked : ℕ → ℕ → Walked
walked n a = record { number = n; asked = a }

-- ---- a record met

-- there is a byte for the question
abbrev pub answered : List ℕ → ℕ → Bool
answered bytes q = ltb q (length bytes)

-- where the answer to question q leads
abbrev pub choice : List ℕ → ℕ → ℕ → ℕ → ℕ
choice bytes q y n = chosen (is_yes (get_or bytes q 0)) y n

-- a line at row i
unfoldable pub line_at : List ℕ → List ℕ → ℕ → Met
line_at R bytes i = cond (answered bytes (record_question R i)) (Line (choice bytes (record_question R i) (record_yes R i) (record_no R i))) Wrong

-- a record at row i: a line, a leaf, or of another kind
unfoldable pub kind_at : List ℕ → List ℕ → ℕ → Met
kind_at R bytes i = cond (eqb (record_kind R i) 0) (line_at R bytes i) (cond (eqb (record_kind R i) 1) (Leaf (record_pdf R i)) Wrong)

-- record k of a tree with `count` records from `first` on
unfoldable pub meet_at : List ℕ → ℕ → ℕ → List ℕ → ℕ → Met
meet_at R first count bytes k = cond (record_there R first count k) (kind_at R bytes (first + k)) Wrong

-- ---- from a record on

-- one question more
abbrev pub one_more : Result Walked Refusal → Result Walked Refusal
one_more (Ok r) = Ok (walked r.number (suc r.asked))
one_more (Err r) = Err r

-- how the walk ends by what is met; `on` is how it ends where a line leads
abbrev pub by_met : (ℕ → Result Walked Refusal) → Met → Result Walked Refusal
by_met on (Leaf n) = Ok (walked n 0)
by_met on (Line j) = on j
by_met on Wrong = Err WalkTable

-- from record k on, with so many questions still allowed
unfoldable pub walk_from : (ℕ → Met) → ℕ → ℕ → Result Walked Refusal
walk_from meets zero k = by_met (λ j. Err Steps) (meets k)
walk_from meets (suc left) k = by_met (λ j. one_more (walk_from meets left j)) (meets k)

-- ---- a tree

unfoldable pub walk_of : List ℕ → List ℕ → ℕ → List ℕ → ℕ → Result Walked Refusal
walk_of T R t bytes limit = cond (tree_there T t) (walk_from (meet_at R (tree_first T t) (tree_records T t) bytes) limit 0) (Err WalkTable)
