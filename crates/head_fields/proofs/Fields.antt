-- The laws of the tables: past the last field, the kind of a key by its field's number, and what was not seen.
use mathlib.Core.Path.{◌≡◌, refl}
use mathlib.Core.Bool.{Bool, true, false, cond}
use mathlib.Core.List.{List, [], ◌∷◌}
use Prim.Native.Nat.{ℕ, zero, suc, ◌-◌, ◌≤◌, ◌<◌}
use native.Mathlib.Omega.{arith}
use lib.ListN.{length, get_or}
use Rattle.written.specs.Bytes.{same}
use Rattle.written.specs.HeaderText.{anything, Field, kind_of}
use Rattle.head_fields.specs.Fields.{field_index, kind_at, any_missing}

pub kind_past : (T : List Field) (k : ℕ) → length T ≤ k → kind_at T k ≡ anything
unfolding kind_at
kind_past [] k h = refl
kind_past (f ∷ T) zero h = absurd (omega arith)
kind_past (f ∷ T) (suc k) h = kind_past T k (omega arith)

-- past one more field
pub above : (n k : ℕ) → n ≤ k → (k ≡ n → ⊥) → suc n ≤ k
above n k h e = omega arith

-- the kind of a key is that of the field it names
pub kind_of_key : (T : List Field) (w : List ℕ) → kind_at T (field_index T w) ≡ kind_of T w
unfolding kind_at field_index kind_of
kind_of_key [] w = refl
kind_of_key (f ∷ T) w = go (same f.name w) (kind_of_key T w)
  where
    go : (t : Bool) → kind_at T (field_index T w) ≡ kind_of T w → kind_at (f ∷ T) (cond t 0 (suc (field_index T w))) ≡ cond t f.kind (kind_of T w)
    go true h = refl
    go false h = h

pub index_in : (T : List Field) (w : List ℕ) → field_index T w ≤ length T
unfolding field_index
index_in [] w = omega arith
index_in (f ∷ T) w = go (same f.name w) (index_in T w)
  where
    go : (t : Bool) → field_index T w ≤ length T → cond t 0 (suc (field_index T w)) ≤ suc (length T)
    go true h = omega arith
    go false h = omega arith

-- ---- the first n that were seen, from the last

pub missing_here : (m : List Bool) (n : ℕ) → 0 < n → get_or m (n - 1) false ≡ false → any_missing m n ≡ true
unfolding any_missing
missing_here m zero h e = absurd (omega arith)
missing_here m (suc n) h e = let k : suc n - 1 ≡ n = omega arith in rw (rw k at e)

pub missing_on : (m : List Bool) (n : ℕ) → 0 < n → get_or m (n - 1) false ≡ true → any_missing m n ≡ any_missing m (n - 1)
unfolding any_missing
missing_on m zero h e = absurd (omega arith)
missing_on m (suc n) h e = let k : suc n - 1 ≡ n = omega arith in rw (k, rw k at e)
