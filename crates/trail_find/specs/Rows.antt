-- The rows of a trailer at a file's end, by position (02, Wish 7).
use Rattle.std.specs.declared.option.Option.{Option}
use Rattle.std.specs.Prelude.{cond, List, [], ◌∷◌, ℕ, zero, suc, ◌+◌, ◌-◌, ◌*◌, ltb, eqb, length, Err, Ok, Result, Some, None}
use Rattle.pdf_blocks.specs.Values.{word_at}
use Rattle.error.specs.declared.Refusal.{Refusal}
use Rattle.trail_find.specs.declared.Trail.{Trail}
use Rattle.error.specs.declared.Refusal.TheVariants as refusal

-- c rows from b on
abbrev pub rows_from : ℕ → ℕ → Result Trail Refusal
rows_from b c = Ok (record { begin = b; count = c })

-- c rows from b on end where the last three numbers begin, at e
abbrev pub rows_to : ℕ → ℕ → ℕ → Result Trail Refusal
rows_to e c b = cond (eqb (b + 12 * c) e) (rows_from b c) (Err refusal.TrailerRows)

-- by the count and the beginning in the last 12 bytes, of a file that has n bytes of data
unfoldable pub trail_at : List ℕ → ℕ → Result Trail Refusal
trail_at s n = cond (ltb n 12) (Err refusal.NoTrailer) (rows_to (length s - 12) (word_at s (length s - 12)) (word_at s (length s - 12 + 4)))

-- the offsets in those of n rows from i on that are of model m
unfoldable pub offsets_at : List ℕ → ℕ → ℕ → ℕ → List ℕ
offsets_at s m i zero = []
offsets_at s m i (suc n) = cond (eqb (word_at s i) m) (word_at s (i + 4) ∷ offsets_at s m (i + 12) n) (offsets_at s m (i + 12) n)

-- the k-th of them
unfoldable pub nth_of : List ℕ → ℕ → Option ℕ
nth_of [] k = None
nth_of (x ∷ xs) zero = Some x
nth_of (x ∷ xs) (suc k) = nth_of xs k
