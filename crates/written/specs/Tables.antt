-- The rows of a whole model out of what its tree text and its block say: document 01, 'Linking and tables', and document 02, Wish 10. Values are not here.
use Rattle.std.specs.Prelude.{◌≡◌, ℕ, zero, suc, ◌+◌, length, pos, negsuc}
use mathlib.Core.List.{List, [], ◌∷◌, ◌++◌, map, zip_with}
use Rattle.written.specs.Bytes.{Span}
use Rattle.written.specs.Blocks as block
use Rattle.written.specs.Said.{Ref, Line, Body, braces, Tree, Question, QuestionPlace}
use Rattle.written.specs.Linking.{Nth, Row, Single, NotSingle, Records, Refused}

-- (start, length)
abbrev pub pattern_row : Span → Row
pattern_row w = w.start ∷ w.len ∷ []

unfoldable pub pattern_rows : List QuestionPlace → List Row
pattern_rows [] = []
pattern_rows (q ∷ qs) = map pattern_row q.patterns ++ pattern_rows qs

-- (name start, length, first pattern, patterns); k is the first pattern of the first of them
unfoldable pub question_rows : ℕ → List QuestionPlace → List Row
question_rows k [] = []
question_rows k (q ∷ qs) = (q.name.start ∷ q.name.len ∷ k ∷ length q.patterns ∷ []) ∷ question_rows (k + length q.patterns) qs

-- the lines of a tree's row: 0 where the tree is one reference
pub data LinesOf : Body → ℕ → Type 0 where
  single : {t : Body} {r : Ref} → Single t r → LinesOf t 0
  lines : {ls : List Line} → NotSingle ls → LinesOf (braces ls) (length ls)

-- what the text says of each tree's row (state, first record, records, lines), and records; f is the first record of the first of them
pub data TreeRows (qs : List Question) : ℕ → List Tree → List Row → List Row → Type 0 where
  none : {f : ℕ} → TreeRows qs f [] [] []
  more : {f n m : ℕ} {t : Tree} {ts : List Tree} {rows trees records : List Row}
      → t.state ≡ pos n → Records qs t.body rows → LinesOf t.body m → TreeRows qs (f + length rows) ts trees records
      → TreeRows qs f (t ∷ ts) ((n ∷ f ∷ length rows ∷ m ∷ []) ∷ trees) (rows ++ records)

-- a tree's row: what its text says (state, first record, records, lines), and what its block says (first value, entries)
abbrev pub tree_row : Row → block.Row → Row
tree_row r b = r ++ (b.first ∷ b.entries ∷ [])

-- the tree rows of a model
abbrev pub folded : List Row → List block.Row → List Row
folded = zip_with tree_row

-- a model's linking is refused where its first refused tree is: number, tree, line
pub data ModelRefused (qs : List Question) : List Tree → ℕ → ℕ → ℕ → Type 0 where
  here : {t : Tree} {ts : List Tree} {c k : ℕ} → Refused qs t.body c k → ModelRefused qs (t ∷ ts) c zero k
  later : {t : Tree} {ts : List Tree} {c i k : ℕ} {rows : List Row} → Records qs t.body rows → ModelRefused qs ts c i k → ModelRefused qs (t ∷ ts) c (suc i) k

-- 18: some state is negative
pub data Negative (ts : List Tree) : Type 0 where
  negative : {i n : ℕ} {t : Tree} → Nth ts i t → t.state ≡ negsuc n → Negative ts
