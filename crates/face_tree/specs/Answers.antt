-- What the load of one tree through a trailer answers in numbers, and each lent slice after it, by the words of a record and both tasks' bounds (02, Wishes 7 and 9;
-- host/larsavim.h). Words that are no record leave everything as it was.
use Rattle.std.specs.Prelude.{cond, List, ℕ, eqb}
use Rattle.head_words.specs.Words.{header_at}
use Rattle.written.specs.Sharing.{Side, Held, holds}
use Rattle.load_model.specs.Load.{Tables}
use Rattle.load_shared.specs.Beside.{rows_of}
use Rattle.trail_load.specs.Load.{tree_beside}
use Rattle.face_record.specs.Answers.{judged_of}
use Rattle.face_model.specs.declared.Rows.{Rows}
use Rattle.face_model.specs.Answers.{which_of}
use Rattle.face_load.specs.Answers.{Filled, filled_by, untouched, Is}
use Rattle.face_shared.specs.Answers.{side_at, standing}

-- tree k of model n, of words that are judged so; a model's number is that of its rows
abbrev pub tree_filled_in : ℕ → List ℕ → List ℕ → ℕ → ℕ → Side → Held → Tables → Filled
tree_filled_in j s w n k x other T = cond (eqb j 0) (filled_by (tree_beside x s (header_at w) (which_of n) n k other T)) (untouched j T)

unfoldable pub tree_filled_of : List ℕ → List ℕ → ℕ → ℕ → Side → Held → Tables → Filled
tree_filled_of s w n k x other T = tree_filled_in (judged_of w) s w n k x other T

abbrev pub TreeLoadSaid : List ℕ → List ℕ → ℕ → ℕ → Side → Held → Tables → Rows → Tables → Type 0
TreeLoadSaid s w n k x other T = Is (tree_filled_of s w n k x other T)

-- 29, 24, then the load
unfoldable pub tree_shared_of : List ℕ → List ℕ → ℕ → ℕ → ℕ → Held → Held → Tables → Filled
tree_shared_of s w n k d mine other T =
    cond (holds mine) (untouched 29 T) (cond (standing d mine other (rows_of T)) (tree_filled_of s w n k (side_at d) other T) (untouched 24 T))

abbrev pub TreeSaid : List ℕ → List ℕ → ℕ → ℕ → ℕ → Held → Held → Tables → Rows → Tables → Type 0
TreeSaid s w n k d mine other T = Is (tree_shared_of s w n k d mine other T)
