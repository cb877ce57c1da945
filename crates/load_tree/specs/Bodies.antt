-- The records of one tree out of what was read of it: numbers of the table, and the lines of its row; or what linking refuses.
use Rattle.error.specs.declared.LineFault.{LineFault}
use Rattle.std.specs.Prelude.{◌≡◌, cond, List, [], ◌∷◌, ℕ, ◌*◌, ℤ, length, Err, None, Ok, Some, Option, Result}
use Rattle.std.proofs.lemmas.List.Edits.{sets}
use Rattle.laws.specs.Steps.{Ending, done_at, broken_at}
use Rattle.error.specs.declared.LinkFault.TheVariants.{LoneNode}
use Rattle.tree_reference.specs.References.{same_index}
use Rattle.tree_reference.specs.declared.TreeIndex.{TreeIndex}
use Rattle.tree_reference.specs.declared.TreeIndex.TheVariants.{Node, Pdf}
use Rattle.tree_line.specs.Lines.{lines_at}
use Rattle.tree_line.specs.declared.Line.{Line}
use Rattle.tree_body.specs.Trees.{Body, lone, braces}
use Rattle.tree_survey_lines.specs.Counts.{records_of}
use Rattle.text_parts.specs.Parts.{nat_of}
use Rattle.link_tree.specs.Linked.{link_outcome, linked_rows, rows_after}
use Rattle.load_lines.specs.Words.{line_words}
use Rattle.load_tree.specs.declared.TreeFill.{TreeFill}
use Rattle.load_tree.specs.declared.Filled.{Filled}
use Rattle.error.specs.declared.LinkFault.{LinkFault}

-- so many records, and the lines of the tree's row
abbrev pub filled : ℕ → ℕ → Result Filled LineFault
filled m n = Ok (record { records = m; lines = n })

-- what linking refuses, and the line
abbrev pub unfilled : LinkFault → ℕ → Result Filled LineFault
unfilled f k = Err (record { fault = f; line = k })

-- how a tree ends, and the numbers that stand in its part of the records
pub record TreeResult : Type 0 where
  pub ends : Result Filled LineFault
  pub rows : List ℕ

-- a tree that is one reference: with a PDF a bare leaf, with a node refused
abbrev pub leaf_result : TreeIndex → TreeResult
leaf_result (Pdf x) = record { ends = filled 1 0; rows = 1 ∷ nat_of x ∷ 0 ∷ 0 ∷ [] }
leaf_result (Node x) = record { ends = unfilled LoneNode 0; rows = [] }

-- n lines that need m records, linked
abbrev pub link_ends : ℕ → ℕ → Result Unit LineFault → Result Filled LineFault
link_ends n m (Ok tt) = filled m n
link_ends n m (Err r) = unfilled r.fault r.line

unfoldable pub link_result : List ℤ → ℕ → ℕ → TreeResult
link_result w n m = record { ends = link_ends n m (link_outcome w n); rows = rows_after (link_outcome w n) (linked_rows w n) (4 * m) }

-- by the questions of the table, of which there are n
abbrev pub lines_result : List ℕ → List ℕ → ℕ → List Line → TreeResult
lines_result s questions n [] = record { ends = filled 0 0; rows = [] }
lines_result s questions n (l ∷ []) =
    cond (same_index l.no l.yes) (leaf_result l.yes) (link_result (line_words s questions n (l ∷ [])) 1 (records_of (l ∷ [])))
lines_result s questions n (l ∷ (k ∷ ls)) =
    link_result (line_words s questions n (l ∷ (k ∷ ls))) (length (l ∷ (k ∷ ls))) (records_of (l ∷ (k ∷ ls)))

abbrev pub body_result : List ℕ → List ℕ → ℕ → Body → TreeResult
body_result s questions n (lone r) = leaf_result r
body_result s questions n (braces ls) = lines_result s questions n ls

abbrev pub place_of : Ending → ℕ
place_of (done_at e) = e
place_of (broken_at e) = e

-- where reading lines from i on ends
abbrev pub lines_end : List ℕ → ℕ → ℕ
lines_end s i = place_of (lines_at s i).ending

-- the reference that a tree of one line with equal references is
abbrev pub single_of : List Line → Option TreeIndex
single_of [] = None
single_of (l ∷ []) = cond (same_index l.no l.yes) (Some l.yes) None
single_of (l ∷ (k ∷ ls)) = None

-- a tree in braces, filled by the n questions of the table: how it ended, where reading did, and the records and the work after it
abbrev pub BracesFilled : List ℕ → List ℕ → ℕ → ℕ → ℕ → List ℕ → List ℤ → TreeFill → List ℕ → List ℤ → Type 0
BracesFilled s questions n at first R w r R₁ w₁ =
    (r.filled ≡ (lines_result s questions n (lines_at s at).items).ends) × (r.next ≡ lines_end s at)
    × (R₁ ≡ sets R first (lines_result s questions n (lines_at s at).items).rows) × (w₁ ≡ sets w 0 (line_words s questions n (lines_at s at).items))
