-- The lines of a tree as the work has them, six numbers a line: id; 0 and an id, or 1 and a PDF number, for yes; the same for no;
-- one more than the question's row, or 0 where no question has the line's name.
use Rattle.std.specs.Prelude.{cond, List, [], ◌∷◌, ◌++◌, ℕ, zero, suc, ◌+◌, ◌*◌, eqb, ℤ, pos, get_or}
use Rattle.written.specs.Said.{Ref, node, pdf}
use Rattle.written.specs.Linking.{pdf_of}
use Rattle.text_parts.specs.Parts.{nat_of}

pub record WorkLine : Type 0 where
  pub id : ℤ
  pub yes : Ref
  pub no : Ref
  pub question : ℕ

-- the reference of a kind and a number
unfoldable pub ref_of : ℤ → ℤ → Ref
ref_of k v = cond (eqb (nat_of k) 0) (node v) (pdf (nat_of v))

-- the reference whose kind stands at p
abbrev pub ref_at : List ℤ → ℕ → Ref
ref_at w p = ref_of (get_or w p (pos 0)) (get_or w (p + 1) (pos 0))

-- line k
abbrev pub line_in : List ℤ → ℕ → WorkLine
line_in w k = record { id = get_or w (6 * k) (pos 0); yes = ref_at w (6 * k + 1); no = ref_at w (6 * k + 3); question = nat_of (get_or w (6 * k + 5) (pos 0)) }

-- n lines from line k on
unfoldable pub lines_from : List ℤ → ℕ → ℕ → List WorkLine
lines_from w k zero = []
lines_from w k (suc n) = line_in w k ∷ lines_from w (suc k) n

-- every PDF reference of the lines
unfoldable pub pdfs_of : List WorkLine → List ℕ
pdfs_of [] = []
pdfs_of (l ∷ ls) = pdf_of l.yes ++ (pdf_of l.no ++ pdfs_of ls)
