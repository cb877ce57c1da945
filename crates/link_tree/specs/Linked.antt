-- The records of a tree whose n lines stand in the work: the lines in order, then every PDF reference as a leaf, ascending, repeats kept.
use Rattle.error.specs.declared.LineFault.{LineFault}
use Rattle.error.specs.declared.LinkFault.{LinkFault}
use Rattle.link_tree.specs.declared.Sides.{Sides}
use Rattle.std.specs.declared.result.Result.{Result}
use Rattle.std.specs.Prelude.{◌≡◌, List, [], ◌∷◌, ◌++◌, ℕ, ◌-◌, ℤ, length, replicate, Ok, Err}
use Rattle.link_order.specs.Keys.{key_of}
use Rattle.link_sort.specs.Sorted.{sorted}
use Rattle.link_targets.specs.Lines.{WorkLine, lines_from, pdfs_of}
use Rattle.link_targets.specs.Targets.{target_of}
use Rattle.link_rows.specs.Rows.{leaf_rows}
use Rattle.link_tree.specs.Steps.{step_of, outcome, goals}

unfoldable pub leaves_of : List ℤ → ℕ → List ℕ
leaves_of w n = sorted (key_of (λ x. 0)) (pdfs_of (lines_from w 0 n))

abbrev pub step_in : List ℤ → ℕ → WorkLine → Result Sides LinkFault
step_in w n = step_of (target_of w n (leaves_of w n))

-- (0, question, yes, no) of each line
unfoldable pub record_rows : List WorkLine → List ℕ → List ℕ
record_rows [] g = []
record_rows (l ∷ ls) [] = []
record_rows (l ∷ ls) (y ∷ []) = []
record_rows (l ∷ ls) (y ∷ n ∷ g) = 0 ∷ (l.question - 1) ∷ y ∷ n ∷ record_rows ls g

unfoldable pub link_outcome : List ℤ → ℕ → Result Unit LineFault
link_outcome w n = outcome (step_in w n) 0 (lines_from w 0 n)

unfoldable pub linked_rows : List ℤ → ℕ → List ℕ
linked_rows w n = record_rows (lines_from w 0 n) (goals (step_in w n) (lines_from w 0 n)) ++ leaf_rows (leaves_of w n)

-- the rows after linking: the records, or zeros where it is refused
abbrev pub rows_after : Result Unit LineFault → List ℕ → ℕ → List ℕ
rows_after (Ok tt) rows n = rows
rows_after (Err r) rows n = replicate n 0

pub record Linking (w : List ℤ) (n : ℕ) (before after : List ℕ) (r : Result Unit LineFault) : Type 0 where
  pub is : r ≡ link_outcome w n
  pub rows : after ≡ rows_after (link_outcome w n) (linked_rows w n) (length before)
