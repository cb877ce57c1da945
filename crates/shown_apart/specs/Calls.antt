-- Calls of both tasks, one after another, over one set of tables. From 02's Wish 9.
use Rattle.std.specs.Prelude.{Bool, true, false, cond, ◌&&◌, not, List, [], ◌∷◌}
use Rattle.written.specs.Sharing.{Side, bottom, top, opposite, Tables, Held, nothing}
use Rattle.load_apart.specs.Loads.{Answer, Model, Planned, Every, After, NoRoom, Done, Refused, Overlap, Holding, shared_of, unload_of}

-- the tables, and each task's bounds
pub record State : Type 0 where
  pub tables : Tables
  pub held : Side → Held

-- both tasks hold nothing
abbrev pub empty : Tables → State
empty t = record { tables = t; held = λ x. nothing }

-- the bounds of both, where those of x are h
abbrev pub with_held : Side → Held → (Side → Held) → Side → Held
with_held bottom h s bottom = h
with_held bottom h s top = s top
with_held top h s bottom = s bottom
with_held top h s top = h

-- whether two are the same task
abbrev pub is : Side → Side → Bool
is bottom bottom = true
is bottom top = false
is top bottom = false
is top top = true

module _ (R : Type 0) where
  pub data Call : Type 0 where
    load : Planned R → Call
    unload : Call

  -- a call, and whose
  pub record Turn : Type 0 where
    pub task : Side
    pub call : Call

module _ {R : Type 0} where
  -- turns whose models are such
  pub data EveryCall (P : Model R → Type 0) : Call R → Type 0 where
    loads : {p : Planned R} → Every P p → EveryCall P (load p)
    unloads : EveryCall P unload

  pub data EveryTurn (P : Model R → Type 0) : List (Turn R) → Type 0 where
    none : EveryTurn P []
    more : {c : Turn R} {cs : List (Turn R)} → EveryCall P c.call → EveryTurn P cs → EveryTurn P (c ∷ cs)

  abbrev pub called : Side → Call R → Held → Held → Tables → After R
  called x (load p) mine other t = shared_of x p mine other t
  called x unload mine other t = unload_of x mine other t

  -- what a turn answers and leaves
  abbrev pub turned : Turn R → State → After R
  turned c s = called c.task c.call (s.held c.task) (s.held (opposite c.task)) s.tables

  abbrev pub next : Turn R → State → State
  next c s = record { tables = (turned c s).tables; held = with_held c.task (turned c s).held s.held }

  unfoldable pub run : List (Turn R) → State → State
  run [] s = s
  run (c ∷ cs) s = run cs (next c s)

  -- what the turns are answered
  unfoldable pub answers : List (Turn R) → State → List (Answer R)
  answers [] s = []
  answers (c ∷ cs) s = (turned c s).answer ∷ answers cs (next c s)

  -- ---- what one task sees of it

  abbrev pub is_no_room : Answer R → Bool
  is_no_room (Done n) = false
  is_no_room (Refused z) = false
  is_no_room NoRoom = true
  is_no_room Overlap = false
  is_no_room Holding = false

  -- a turn of x, not answered 20
  abbrev pub counts : Side → Turn R → State → Bool
  counts x c s = is x c.task && not (is_no_room (turned c s).answer)

  -- the turns of x, without its loads that were answered 20
  unfoldable pub kept : Side → List (Turn R) → State → List (Turn R)
  kept x [] s = []
  kept x (c ∷ cs) s = cond (counts x c s) (c ∷ kept x cs (next c s)) (kept x cs (next c s))

  -- what they were answered
  unfoldable pub told : Side → List (Turn R) → State → List (Answer R)
  told x [] s = []
  told x (c ∷ cs) s = cond (counts x c s) ((turned c s).answer ∷ told x cs (next c s)) (told x cs (next c s))
