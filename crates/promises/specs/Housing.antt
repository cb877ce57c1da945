-- What `larsavim_house` promises (02, Wish 11), of any file, words, bounds and tables: what it returns, and the words, the task's bounds, every lent slice and `out` after it.
use Rattle.std.specs.Prelude.{◌≡◌, List, [], ◌∷◌, ◌⊎◌, ℕ, ◌≤◌, ◌<◌, length, get_or}
use Rattle.std.proofs.lemmas.List.Edits.{sets}
use Rattle.written.specs.Record.{Header, Says}
use Rattle.written.specs.Faults.{Refused}
use Rattle.written.specs.Said.{Layout}
use Rattle.written.specs.Linking.{Row}
use Rattle.written.specs.Tables.{TreeRows}
use Rattle.written.specs.Models.{Model, model_number, Models}
use Rattle.written.specs.Loading.{ModelSaid, ReadsModel}
use Rattle.written.specs.House.{HouseVoice, VoiceBreaks}
use Rattle.written.specs.Sharing.{Side, questions, patterns, trees, records, values, Held, nothing, placed, cleared}
use Rattle.load_model.specs.Load.{Tables as Lent}
use Rattle.load_shared.specs.Beside.{rows_of, with_work}
use Rattle.face_shared.specs.Answers.{held_at, side_at}
use Rattle.promises.specs.Opening.{record_words}
use Rattle.promises.specs.Loading.{widening, refused_numbers}
use Rattle.promises.specs.Sharing.{needed, model_rows, RoomBeside, zero_work, BesideEnds, Standing}

-- a task's rows zero, and nothing else differs: an unload
abbrev pub emptied : Side → Held → Lent → Lent
emptied x mine t = with_work (cleared x mine (rows_of t)) t.work

-- five numbers: the bounds as they are handed back
abbrev pub five_of : Held → List ℕ
five_of n = n questions ∷ n patterns ∷ n trees ∷ n records ∷ n values ∷ []

module _ (x : Side) (s : List ℕ) (h : Header) (other : Held) where
  -- the load of a model into the task's rows is done, as `larsavim_load_shared` has it: the model is y, and its rows stand where the task has them
  pub data Loads (m : Model) (t : Lent) : ModelSaid → Lent → Type 0 where
    loads : {y : ModelSaid} {l : Layout} {ts rs : List Row} → ReadsModel widening s h m y l → RoomBeside y other t → TreeRows y.text.questions 0 y.text.trees ts rs
        → Loads m t y (zero_work (placed x (needed y) (model_rows y l ts rs) (rows_of t)) t)

  -- or it is refused, with number, place and line
  pub data LoadRefused (m : Model) (t : Lent) : ℕ → ℕ → ℕ → Lent → Type 0 where
    refused : {n p k : ℕ} {u : Lent} → ¬ (n ≡ 0) → BesideEnds x s h m other t (refused_numbers n p k) u → LoadRefused m t n p k u

  -- models in turn, each unloaded before the next loads: what the task holds and the tables before them; what the models are, what the task holds and the tables after them
  pub data InTurn : List Model → Held → Lent → List ModelSaid → Held → Lent → Type 0 where
    end : {mine : Held} {t : Lent} → InTurn [] mine t [] mine t
    next : {m : Model} {ms : List Model} {mine mine₁ : Held} {t u t₁ : Lent} {y : ModelSaid} {ys : List ModelSaid}
        → Loads m (emptied x mine t) y u → InTurn ms (needed y) u ys mine₁ t₁ → InTurn (m ∷ ms) mine t (y ∷ ys) mine₁ t₁

  -- the first load that is refused: number, place, line, the model's number, and the tables that this load leaves
  pub data Stops : List Model → Held → Lent → ℕ → ℕ → ℕ → ℕ → Lent → Type 0 where
    here : {m : Model} {ms : List Model} {mine : Held} {t u : Lent} {n p l : ℕ} → LoadRefused m (emptied x mine t) n p l u → Stops (m ∷ ms) mine t n p l (model_number m) u
    later : {m : Model} {ms : List Model} {mine : Held} {t u t₁ : Lent} {y : ModelSaid} {n p l k : ℕ}
        → Loads m (emptied x mine t) y u → Stops ms (needed y) u n p l k t₁ → Stops (m ∷ ms) mine t n p l k t₁

  -- how the voice of a file that says h is judged, by its models ms in order: number, place, line, model; the bounds and the tables after it
  pub data VoiceEnds (ms : List Model) (held : List ℕ) (t : Lent) : List ℕ → List ℕ → Lent → Type 0 where
    -- 12 to 23: a load is refused; the bounds stay 0
    stopped : {n p l k : ℕ} {u : Lent} → Stops ms nothing t n p l k u → VoiceEnds ms held t (n ∷ p ∷ l ∷ k ∷ []) held u
    -- 30 to 36: every model loads, and a rule is broken; the last model stays in the task's rows
    breaks : {ys : List ModelSaid} {mine : Held} {n k : ℕ} {u : Lent} → InTurn ms nothing t ys mine u → VoiceBreaks s h ms ys n k
        → VoiceEnds ms held t (n ∷ 0 ∷ 0 ∷ k ∷ []) (sets held 0 (five_of mine)) u
    -- 0: every model loads, and all rules are kept
    house : {ys : List ModelSaid} {mine : Held} {u : Lent} → InTurn ms nothing t ys mine u → HouseVoice s h ys
        → VoiceEnds ms held t (0 ∷ 0 ∷ 0 ∷ 0 ∷ []) (sets held 0 (five_of mine)) u

-- how the call ends: number, place, line, model; words, bounds and tables after it
pub data HouseEnds (file words : List ℕ) (d : ℕ) (held other : List ℕ) (t : Lent) : List ℕ → List ℕ → List ℕ → Lent → Type 0 where
  -- 29, before everything else: the task holds a model
  holding : ¬ (held_at held ≡ nothing) → HouseEnds file words d held other t (29 ∷ 0 ∷ 0 ∷ 0 ∷ []) words held t
  -- 24: bounds overlap or pass a table
  overlap : held_at held ≡ nothing → ¬ Standing d (held_at held) (held_at other) (rows_of t) → HouseEnds file words d held other t (24 ∷ 0 ∷ 0 ∷ 0 ∷ []) words held t
  -- the file is refused
  unopened : {n p : ℕ} → held_at held ≡ nothing → Standing d (held_at held) (held_at other) (rows_of t) → Refused file n p
      → HouseEnds file words d held other t (n ∷ p ∷ 0 ∷ 0 ∷ []) words held t
  -- it says a record, and the words are too few for it
  few_words : {h : Header} → held_at held ≡ nothing → Standing d (held_at held) (held_at other) (rows_of t) → Says file h → length words < 647
      → HouseEnds file words d held other t (20 ∷ 0 ∷ 0 ∷ 0 ∷ []) words held t
  -- it says one: the words are that record, and its models are judged
  judged : {h : Header} {ms : List Model} {l held₁ : List ℕ} {u : Lent} → held_at held ≡ nothing → Standing d (held_at held) (held_at other) (rows_of t) → Says file h → 647 ≤ length words
      → Models file h ms → VoiceEnds (side_at d) file h (held_at other) ms held t l held₁ u → HouseEnds file words d held other t l (sets words 0 (record_words h)) held₁ u

pub data AfterHouse (file words : List ℕ) (d : ℕ) (held other : List ℕ) (t : Lent) (out : List ℕ) : ℕ → List ℕ → List ℕ → Lent → List ℕ → Type 0 where
  -- no room for the answer or for bounds
  short : (length out < 4) ⊎ ((length held < 5) ⊎ (length other < 5)) → AfterHouse file words d held other t out 20 words held t out
  ended : {l words₁ held₁ : List ℕ} {u : Lent} → 4 ≤ length out → 5 ≤ length held → 5 ≤ length other → HouseEnds file words d held other t l words₁ held₁ u
      → AfterHouse file words d held other t out (get_or l 0 0) words₁ held₁ u (sets out 0 l)
