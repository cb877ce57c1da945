-- 22 by computation (02, Wish 6): whether names and patterns have no byte outside the grammar.
use Rattle.std.specs.Prelude.{Bool, true, false, cond, ◌&&◌, List, [], ◌∷◌, ℕ}
use Rattle.written.specs.Bytes.{in_name, in_pattern, part}
use Rattle.laws.specs.Every.{all}
use Rattle.table_rows.specs.Rows.{question_rows, question_start, question_len, pattern_rows, pattern_start, pattern_len}

-- a byte that a name has, or a pattern
unfoldable pub fits : Bool → ℕ → Bool
fits name b = cond name (in_name b) (in_pattern b)

unfoldable pub every : (ℕ → Bool) → List ℕ → Bool
every p [] = true
every p (b ∷ s) = p b && every p s

unfoldable pub name_fits : List ℕ → List ℕ → ℕ → Bool
name_fits d Q q = every (fits true) (part d (question_start Q q) (question_len Q q))

unfoldable pub pattern_fits : List ℕ → List ℕ → ℕ → Bool
pattern_fits d P p = every (fits false) (part d (pattern_start P p) (pattern_len P p))

unfoldable pub bytes_fit : List ℕ → List ℕ → List ℕ → Bool
bytes_fit d Q P = all (name_fits d Q) 0 (question_rows Q) && all (pattern_fits d P) 0 (pattern_rows P)
