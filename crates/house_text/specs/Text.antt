-- The rules on trees as they are written, by computation.
use Rattle.std.specs.Prelude.{Bool, true, ◌&&◌, List, [], ◌∷◌, ℕ, suc}
use Rattle.table_rows.specs.Rows.{tree_entries}
use Rattle.tree_reference.specs.declared.TreeIndex.{TreeIndex}
use Rattle.tree_reference.specs.declared.TreeIndex.TheVariants.{Node, Pdf}
use Rattle.tree_line.specs.declared.Line.{Line}
use Rattle.tree_body.specs.Trees.{Body, lone, braces, Tree}
use Rattle.text_parts.specs.Parts.{nat_of}
use Rattle.link_find.specs.Find.{ordered}
use Rattle.walk_leaves.specs.Conditions.{leaf_fits}

-- a test on the body of each tree and its number, counted from k
unfoldable pub bodies_hold : (ℕ → Body → Bool) → ℕ → List Tree → Bool
bodies_hold p k [] = true
bodies_hold p k (t ∷ ts) = p k t.body && bodies_hold p (suc k) ts

-- ---- ids

abbrev pub body_ids : Body → Bool
body_ids (lone r) = true
body_ids (braces ls) = ordered 0 ls

abbrev pub trees_ids : List Tree → Bool
trees_ids ts = bodies_hold (λ k b. body_ids b) 0 ts

-- ---- leaves

abbrev pub ref_fits : ℕ → TreeIndex → Bool
ref_fits entries (Node x) = true
ref_fits entries (Pdf x) = leaf_fits (nat_of x) entries

abbrev pub line_fits : ℕ → Line → Bool
line_fits entries l = ref_fits entries l.yes && ref_fits entries l.no

unfoldable pub lines_fit : ℕ → List Line → Bool
lines_fit entries [] = true
lines_fit entries (l ∷ ls) = line_fits entries l && lines_fit entries ls

abbrev pub body_fits : ℕ → Body → Bool
body_fits entries (lone r) = ref_fits entries r
body_fits entries (braces ls) = lines_fit entries ls

-- the entries of each tree are in its row
abbrev pub trees_fit : List ℕ → List Tree → Bool
trees_fit trees ts = bodies_hold (λ k b. body_fits (tree_entries trees k) b) 0 ts
