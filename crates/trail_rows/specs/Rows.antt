-- The rows of a text's trees: of each tree the model's number, where it stands, and the lines of its row.
use Rattle.std.specs.Prelude.{cond, List, [], ◌∷◌, ℕ, eqb, length}
use Rattle.laws.specs.Steps.{Step, next, last, broken}
use Rattle.tree_reference.specs.References.{same_index}
use Rattle.tree_line.specs.Lines.{line_step_at}
use Rattle.tree_line.specs.declared.Line.{Line}
use Rattle.tree_line.specs.declared.LineStep.{LineStep}
use Rattle.tree_line.specs.declared.LineStep.TheVariants as line
use Rattle.tree_body.specs.Trees.{Body, lone, braces, Tree, head_at}
use Rattle.tree_body.specs.declared.TreeHead.{TreeHead}
use Rattle.tree_body.specs.declared.TreeHead.TheVariants as head
use Rattle.trail_rows.specs.declared.RowStep.{RowStep}
use Rattle.trail_rows.specs.declared.RowStep.TheVariants.{Next, Last, Broken}

-- ---- the lines of a tree's row: none where the tree is one reference

abbrev pub row_lines : List Line → ℕ
row_lines [] = 0
row_lines (l ∷ []) = cond (same_index l.no l.yes) 0 1
row_lines (l ∷ (k ∷ ls)) = length (l ∷ (k ∷ ls))

abbrev pub body_row : Body → ℕ
body_row (lone r) = 0
body_row (braces ls) = row_lines ls

abbrev pub tree_row : Tree → ℕ
tree_row t = body_row t.body

-- ---- the rows

unfoldable pub rows_of : ℕ → List Tree → List ℕ
rows_of m [] = []
rows_of m (t ∷ ts) = m ∷ t.star ∷ tree_row t ∷ rows_of m ts

abbrev pub row_stepped : Step Tree → RowStep
row_stepped (next t i) = Next (tree_row t) i
row_stepped (last t i) = Last (tree_row t)
row_stepped (broken i) = Broken

-- ---- found again from the place of a tree of n lines

abbrev pub first_lines : LineStep → ℕ
first_lines (line.Next l i) = row_lines (l ∷ [])
first_lines (line.Last l i) = row_lines (l ∷ [])
first_lines line.Broken = 0

abbrev pub head_lines : List ℕ → TreeHead → ℕ
head_lines s (head.Lone x r e) = 0
head_lines s (head.Empty x e) = 0
head_lines s (head.Lines x f) = first_lines (line_step_at s f)
head_lines s head.NoTree = 0

unfoldable pub lines_as_row : List ℕ → ℕ → ℕ → ℕ
lines_as_row s i n = cond (eqb n 1) (head_lines s (head_at s i)) n
