-- What `larsavim_load_shared` promises of words that an opening of the file wrote, and `larsavim_unload` of any tables and bounds (02, Wish 9): what they return, the task's bounds,
-- every lent slice and `out` after them.
use Rattle.std.specs.Prelude.{◌≡◌, cond, ◌⊎◌, ℕ, ◌/◌, ◌≤◌, ◌<◌, eqb, pos, length, get_or, drop, replicate}
use mathlib.Core.List.{List, [], ◌∷◌, flatten}
use Rattle.std.proofs.lemmas.List.Edits.{sets}
use Rattle.written.specs.Record.{Header}
use Rattle.written.specs.Said.{Layout}
use Rattle.written.specs.Linking.{Row}
use Rattle.written.specs.Tables.{TreeRows, ModelRefused, question_rows, pattern_rows, folded}
use Rattle.written.specs.Models.{Model}
use Rattle.written.specs.Loading.{ModelSaid, ReadsModel, NoModel}
use Rattle.written.specs.Sharing.{Side, questions, patterns, trees, records, values, Tables, Held, nothing, placed, cleared, Stand}
use Rattle.load_model.specs.Load.{Tables as Lent}
use Rattle.load_shared.specs.Beside.{rows_of, with_work}
use Rattle.face_shared.specs.Answers.{held_at, side_at}
use Rattle.promises.specs.Loading.{widening, patterns_of, records_of, lines_of, done_numbers, refused_numbers}

-- the rows that a model needs of each table
abbrev pub needed : ModelSaid → Held
needed y questions = length y.text.questions
needed y patterns = patterns_of y
needed y trees = length y.text.trees
needed y records = records_of y
needed y values = length y.values

-- its rows, and its values
abbrev pub model_rows : ModelSaid → Layout → List Row → List Row → Tables
model_rows y l ts rs questions = flatten (question_rows 0 l.questions)
model_rows y l ts rs patterns = flatten (pattern_rows l.questions)
model_rows y l ts rs trees = flatten (folded ts y.rows)
model_rows y l ts rs records = flatten rs
model_rows y l ts rs values = y.values

-- its rows fit beside the other's; the work has six numbers for each line of the longest tree
pub record RoomBeside (y : ModelSaid) (other : Held) (t : Lent) : Type 0 where
  pub rows : Stand (rows_of t) (needed y) other
  pub work : lines_of y ≤ length t.work / 6

-- such tables, the work zero
abbrev pub zero_work : Tables → Lent → Lent
zero_work u t = with_work u (replicate (length t.work) (pos 0))

-- how a load of the model m into the rows of task x ends, of a file that says the record h: the answer's numbers, and what was lent after it
pub data BesideEnds (x : Side) (s : List ℕ) (h : Header) (m : Model) (other : Held) (t : Lent) : List ℕ → Lent → Type 0 where
  -- text and block say a model, its rows fit beside the other's, and its trees link: the rows stand where the task has them, and nothing else differs
  loaded : {y : ModelSaid} {l : Layout} {ts rs : List Row}
      → ReadsModel widening s h m y l → RoomBeside y other t → TreeRows y.text.questions 0 y.text.trees ts rs
      → BesideEnds x s h m other t (done_numbers y rs) (zero_work (placed x (needed y) (model_rows y l ts rs) (rows_of t)) t)
  -- 12 to 19: it is no model
  no_model : {n p k : ℕ} → NoModel widening s h m n p k → n ≤ 19 → BesideEnds x s h m other t (refused_numbers n p k) t
  -- 20
  no_room : {y : ModelSaid} {l : Layout} → ReadsModel widening s h m y l → ¬ RoomBeside y other t → BesideEnds x s h m other t (refused_numbers 20 0 0) t
  -- 21 to 23: its trees don't link; the rows that it needed are zero, and nothing else differs
  unlinked : {y : ModelSaid} {l : Layout} {n i k : ℕ}
      → ReadsModel widening s h m y l → RoomBeside y other t → ModelRefused y.text.questions y.text.trees n i k
      → BesideEnds x s h m other t (refused_numbers n i k) (zero_work (cleared x (needed y) (rows_of t)) t)

-- bounds that stand, of a side that is one of the two
abbrev pub Standing : ℕ → Held → Held → Tables → Type 0
Standing d mine other t = (d ≤ 1) × Stand t mine other

pub data SharedEnds (d : ℕ) (s : List ℕ) (h : Header) (m : Model) (mine other : Held) (t : Lent) : List ℕ → Lent → Type 0 where
  -- 29, before everything else: the task holds a model
  holding : ¬ (mine ≡ nothing) → SharedEnds d s h m mine other t (refused_numbers 29 0 0) t
  -- 24: bounds overlap or pass a table
  overlap : mine ≡ nothing → ¬ Standing d mine other (rows_of t) → SharedEnds d s h m mine other t (refused_numbers 24 0 0) t
  loads : {l : List ℕ} {u : Lent} → mine ≡ nothing → Standing d mine other (rows_of t) → BesideEnds (side_at d) s h m other t l u → SharedEnds d s h m mine other t l u

-- the task's bounds after it: the five numbers behind the first three, where the first is 0
abbrev pub bounds_after : List ℕ → List ℕ → List ℕ
bounds_after l held = cond (eqb (get_or l 0 0) 0) (sets held 0 (drop 3 l)) held

pub data AfterShared (s : List ℕ) (h : Header) (m : Model) (d : ℕ) (held other : List ℕ) (t : Lent) (out : List ℕ) : ℕ → List ℕ → Lent → List ℕ → Type 0 where
  short : (length out < 8) ⊎ ((length held < 5) ⊎ (length other < 5)) → AfterShared s h m d held other t out 20 held t out
  ended : {l : List ℕ} {u : Lent} → 8 ≤ length out → 5 ≤ length held → 5 ≤ length other → SharedEnds d s h m (held_at held) (held_at other) t l u
      → AfterShared s h m d held other t out (get_or l 0 0) (bounds_after l held) u (sets out 0 l)

-- ---- larsavim_unload

pub data AfterUnload (d : ℕ) (held other : List ℕ) (t : Tables) : ℕ → List ℕ → Tables → Type 0 where
  short : (length held < 5) ⊎ (length other < 5) → AfterUnload d held other t 20 held t
  overlap : 5 ≤ length held → 5 ≤ length other → ¬ Standing d (held_at held) (held_at other) t → AfterUnload d held other t 24 held t
  -- zeros in the task's rows, and nothing else differs
  unloaded : 5 ≤ length held → 5 ≤ length other → Standing d (held_at held) (held_at other) t
      → AfterUnload d held other t 0 (sets held 0 (0 ∷ 0 ∷ 0 ∷ 0 ∷ 0 ∷ [])) (cleared (side_at d) (held_at held) t)
