-- The work of the depth check, four numbers a record: whether it is met, the i-th record met, one more than its depth once that is known, the i-th record of a way.
use Rattle.std.specs.Prelude.{◌≡◌, cond, List, ℕ, zero, suc, ◌+◌, ◌*◌, eqb, ℤ, pos, get_or, set}
use Rattle.text_parts.specs.Parts.{nat_of}

-- number `part` of record i
abbrev pub slot_at : ℕ → List ℤ → ℕ → ℕ
slot_at part w i = nat_of (get_or w (4 * i + part) (pos 0))

-- for how many of the first n it is 0
unfoldable pub zeros : (ℕ → ℕ) → ℕ → ℕ
zeros f zero = 0
zeros f (suc n) = cond (eqb (f n) 0) 1 0 + zeros f n

-- record j is marked and stands in the queue; it did before, or stands at the end now
pub data Pushed (w : List ℤ) (tail j r : ℕ) (w' : List ℤ) : Type 0 where
  known : ¬ (slot_at 0 w j ≡ 0) → r ≡ tail → w' ≡ w → Pushed w tail j r w'
  new : slot_at 0 w j ≡ 0 → r ≡ tail + 1 → w' ≡ set (set w (4 * j + 0) (pos 1)) (4 * tail + 1) (pos j) → Pushed w tail j r w'
