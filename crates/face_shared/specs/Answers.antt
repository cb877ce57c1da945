-- What a shared load and an unload answer in numbers, and each lent slice after them, by both tasks' bounds (02, Wish 9; host/larsavim.h).
use Rattle.std.specs.Prelude.{◌≡◌, Bool, cond, ◌&&◌, List, ℕ, leb, eqb, get_or}
use Rattle.written.specs.Sharing.{Side, questions, patterns, trees, records, values, Tables, Held, holds, stands, cleared}
use Rattle.load_model.specs.Load.{Tables as Lent}
use Rattle.load_shared.specs.Beside.{rows_of}
use Rattle.load_bounds.specs.Bounds.{side_of, tables_of}
use Rattle.load_unload.specs.Unloads.{Tabled}
use Rattle.face_model.specs.declared.Rows.{Rows}
use Rattle.face_load.specs.Answers.{Filled, untouched, filled_of, Is}

-- bounds are five numbers
abbrev pub held_at : List ℕ → Held
held_at l questions = get_or l 0 0
held_at l patterns = get_or l 1 0
held_at l trees = get_or l 2 0
held_at l records = get_or l 3 0
held_at l values = get_or l 4 0

-- 0 the bottom, 1 the top
abbrev pub side_at : ℕ → Side
side_at n = side_of (eqb n 1)

-- the side is one of the two, and bounds stand beside each other
abbrev pub standing : ℕ → Held → Held → Tables → Bool
standing d mine other t = leb d 1 && stands t mine other

-- 29, 24, then the load
unfoldable pub shared_of : List ℕ → List ℕ → ℕ → ℕ → Held → Held → Lent → Filled
shared_of s w n d mine other T =
    cond (holds mine) (untouched 29 T) (cond (standing d mine other (rows_of T)) (filled_of s w n (side_at d) other T) (untouched 24 T))

abbrev pub SharedSaid : List ℕ → List ℕ → ℕ → ℕ → Held → Held → Lent → Rows → Lent → Type 0
SharedSaid s w n d mine other T = Is (shared_of s w n d mine other T)

-- zeros in the task's rows; 24 leaves all as it was
unfoldable pub unloaded_of : ℕ → Held → Held → Tables → Tables
unloaded_of d mine other t = cond (standing d mine other t) (cleared (side_at d) mine t) t

pub record UnloadSaid (d : ℕ) (mine other : Held) (q a t c v : List ℕ) (r : Bool) (q₁ a₁ t₁ c₁ v₁ : List ℕ) : Type 0 where
  pub done : r ≡ standing d mine other (tables_of q a t c v)
  pub tables : Tabled (unloaded_of d mine other (tables_of q a t c v)) q₁ a₁ t₁ c₁ v₁
