-- What a load into one task's rows answers in numbers, and each lent slice after it, by the words of a record and the other task's bounds (host/larsavim.h). Words that are
-- no record leave everything as it was.
use Rattle.std.specs.Prelude.{◌≡◌, cond, List, ℕ, eqb}
use Rattle.head_words.specs.Words.{header_at}
use Rattle.face_record.specs.Answers.{judged_of}
use Rattle.written.specs.Sharing.{Side, Held}
use Rattle.load_model.specs.Load.{Tables, After}
use Rattle.load_shared.specs.Beside.{beside_of}
use Rattle.face_model.specs.declared.Rows.{Rows}
use Rattle.face_model.specs.Answers.{which_of, no_rows, rows_by}

-- the answer, and what was lent after the call
pub record Filled : Type 0 where
  pub rows : Rows
  pub tables : Tables

abbrev pub filled_by : After → Filled
filled_by a = record { rows = rows_by a.answer; tables = a.tables }

abbrev pub untouched : ℕ → Tables → Filled
untouched n T = record { rows = no_rows n 0 0; tables = T }

-- of words that are judged so
abbrev pub filled_in : ℕ → List ℕ → List ℕ → ℕ → Side → Held → Tables → Filled
filled_in j s w n x other T = cond (eqb j 0) (filled_by (beside_of x s (header_at w) (which_of n) other T)) (untouched j T)

unfoldable pub filled_of : List ℕ → List ℕ → ℕ → Side → Held → Tables → Filled
filled_of s w n x other T = filled_in (judged_of w) s w n x other T

-- the contract: a load answers r and leaves T₁
abbrev pub Is : Filled → Rows → Tables → Type 0
Is x r T₁ = (r ≡ x.rows) × (T₁ ≡ x.tables)

abbrev pub LoadSaid : List ℕ → List ℕ → ℕ → Side → Held → Tables → Rows → Tables → Type 0
LoadSaid s w n x other T = Is (filled_of s w n x other T)
