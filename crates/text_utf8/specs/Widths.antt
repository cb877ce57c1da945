-- RFC 3629's table as tests: whether bytes start with a sequence of a row, and the length of the sequence that they start with.
use Rattle.std.specs.Prelude.{Bool, true, false, cond, ◌&&◌, List, [], ◌∷◌, ℕ, leb, length}
use Rattle.written.specs.Rfc3629.{Range, ◌⋯◌}

-- b is in the range
abbrev pub holds : Range → ℕ → Bool
holds (lo ⋯ hi) b = leb lo b && leb b hi

-- s starts with a sequence of the row
unfoldable pub starts : List Range → List ℕ → Bool
starts [] s = true
starts (r ∷ rs) [] = false
starts (r ∷ rs) (b ∷ s) = holds r b && starts rs s

-- the length of the sequence of the table that s starts with, 0 if none
unfoldable pub width : List (List Range) → List ℕ → ℕ
unfolding starts
width [] s = 0
width (r ∷ rs) s = cond (starts r s) (length r) (width rs s)
