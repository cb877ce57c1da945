-- What `check` answers: it goes from character to character, to the first place where none starts.
use Rattle.std.specs.declared.result.Result.{Result}
use Rattle.std.specs.Prelude.{List, [], ◌∷◌, ℕ, zero, suc, ◌+◌, Ok, Err}
use Rattle.written.specs.Rfc3629.{table}
use Rattle.text_utf8.specs.Widths.{width}

-- the answer for the bytes s that stand at i, of which the first k belong to a character that was found before
unfoldable pub scan : (k i : ℕ) → List ℕ → Result Unit ℕ
scan k i [] = (Ok tt)
scan (suc k) i (b ∷ s) = scan k (i + 1) s
scan zero i (b ∷ s) = elim (width table (b ∷ s)) [ zero ↦ Err i | suc k ↦ scan k (i + 1) s ]

unfoldable pub check_of : List ℕ → Result Unit ℕ
check_of s = scan 0 0 s
