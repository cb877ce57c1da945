-- The records of a tree as numbers, four a record: (1, PDF number, 0, 0) of a leaf, (0, question, yes, no) of a line.
use Rattle.std.specs.Prelude.{List, [], ◌∷◌, ℕ, zero, suc, ◌+◌, ◌-◌, ◌*◌, ℤ, pos, get_or}
use Rattle.text_parts.specs.Parts.{nat_of}

unfoldable pub leaf_rows : List ℕ → List ℕ
leaf_rows [] = []
leaf_rows (p ∷ ps) = 1 ∷ p ∷ 0 ∷ 0 ∷ leaf_rows ps

-- the rows of lines k, k + 1, .. (n of them), whose yes and no stand at `at` and behind
unfoldable pub line_rows : List ℤ → List ℕ → ℕ → ℕ → ℕ → List ℕ
line_rows w rows at k zero = []
line_rows w rows at k (suc n) = 0 ∷ (nat_of (get_or w (6 * k + 5) (pos 0)) - 1) ∷ get_or rows (at + 2 * k) 0 ∷ get_or rows (at + 2 * k + 1) 0 ∷ line_rows w rows at (suc k) n
