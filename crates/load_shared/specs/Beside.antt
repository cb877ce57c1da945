-- What a load into one task's rows answers and leaves, by the file's bytes, the record, the other task's bounds and the slices before it (01, 'Linking and tables'; 02,
-- Wish 9). Refusals up to 20 leave the slices as they were; 21 to 23 leave the rows needed zero, and all of the work.
use Rattle.std.specs.Prelude.{Bool, cond, ◌&&◌, List, ℕ, ◌*◌, ◌/◌, ◌≤◌, leb, ℤ, length, Err, Ok, Result}
use Rattle.written.specs.Sharing.{Side, questions, patterns, trees, records, values, Tables, Held, seen, placed, stands}
use Rattle.error.specs.declared.Refusal.TheVariants as refusal
use Rattle.head_record.specs.declared.Header.{Header}
use Rattle.load_choose.specs.declared.Which.{Which}
use Rattle.load_plan.specs.Plans.{data_of, planned}
use Rattle.load_plan.specs.declared.Plan.{Plan}
use Rattle.load_model.specs.Load.{Tables as Lent, lent, After, filled, untouched, Is}
use Rattle.load_bounds.specs.Bounds.{need_of, tables_of}
use Rattle.load_model.specs.declared.Loaded.{Loaded}
use Rattle.error.specs.declared.Refusal.{Refusal}

-- the five tables of what is lent
abbrev pub rows_of : Lent → Tables
rows_of T = tables_of T.questions T.patterns T.trees T.records T.values

-- five tables, and the work
abbrev pub with_work : Tables → List ℤ → Lent
with_work t w = lent (t questions) (t patterns) (t trees) (t records) (t values) w

-- ---- a load

-- room for a plan in tables of so many numbers
pub record Fits (p : Plan) (q a t c v w : ℕ) : Type 0 where
  pub questions : p.questions ≤ q / 4
  pub patterns : p.patterns ≤ a / 2
  pub trees : p.trees ≤ t / 6
  pub records : p.records ≤ c / 4
  pub values : p.entries * p.width ≤ v
  pub lines : p.lines ≤ w / 6

-- what filling made of a task's own rows, put where these stand
abbrev pub put_back : Side → Plan → Lent → After → After
put_back x p T f = record { answer = f.answer; tables = with_work (placed x (need_of p) (rows_of f.tables) (rows_of T)) f.tables.work }

-- a plan in the data d, filled into a task's own rows
unfoldable pub placed_in : Side → List ℕ → Plan → Lent → After
placed_in x d p T = put_back x p T (filled d p (with_work (seen x (need_of p) (rows_of T)) T.work))

-- 20: the rows fit beside the other's, and the work has room for the longest tree
abbrev pub room_by : Plan → Held → Lent → Bool
room_by p other T = stands (rows_of T) (need_of p) other && leb p.lines (length T.work / 6)

abbrev pub beside_for : Side → Held → List ℕ → Result Plan Refusal → Lent → After
beside_for x other d (Err z) T = untouched z T
beside_for x other d (Ok p) T = cond (room_by p other T) (placed_in x d p T) (untouched refusal.Room T)

-- of a task that holds nothing
unfoldable pub beside_of : Side → List ℕ → Header → Which → Held → Lent → After
beside_of x s h which other T = beside_for x other (data_of s h) (planned s h which) T

-- ---- the contracts

abbrev pub FillsOwn : Side → List ℕ → Plan → Lent → Result Loaded Refusal → Lent → Type 0
FillsOwn x d p T = Is (placed_in x d p T)

-- a plan in the data d, of a task that holds nothing
abbrev pub PlacesBeside : Side → List ℕ → Plan → Held → Lent → Result Loaded Refusal → Lent → Type 0
PlacesBeside x d p other T = Is (beside_for x other d (Ok p) T)

abbrev pub LoadsBeside : Side → List ℕ → Header → Which → Held → Lent → Result Loaded Refusal → Lent → Type 0
LoadsBeside x s h which other T = Is (beside_of x s h which other T)
