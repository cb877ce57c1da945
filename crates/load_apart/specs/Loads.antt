-- What a shared load and an unload answer and leave, by the tables and both tasks' bounds before it. A model is here the rows that it needs
-- of each table, whether the work that the call is lent has room, and what filling makes of tables of just these rows; refusals are any type.
-- From 02's Wish 9.
use Rattle.std.specs.Prelude.{◌≡◌, Bool, cond, ◌&&◌}
use Rattle.written.specs.Sharing.{Side, Tables, Table, Held, nothing, seen, placed, zeros, cleared, Exactly, holds, stands, room_beside}

module _ (R : Type 0) where
  pub data Answer : Type 0 where
    -- the rows of each table
    Done : Held → Answer
    -- of the file (12 to 19), or of linking (21 to 23)
    Refused : R → Answer
    -- 20
    NoRoom : Answer
    -- 24
    Overlap : Answer
    -- 29
    Holding : Answer

  -- how linking ends
  pub data Linked : Type 0 where
    linked : Linked
    unlinked : R → Linked

  -- tables after filling
  pub record Filled : Type 0 where
    pub ending : Linked
    pub tables : Tables

  -- a model that was planned, with the work that its call is lent
  pub record Model : Type 0 where
    pub need : Held
    pub worked : Bool
    pub fill : Tables → Filled

  -- what planning finds
  pub data Planned : Type 0 where
    refused : R → Planned
    model : Model → Planned

  -- the answer, the tables and the task's own bounds after a call
  pub record After : Type 0 where
    pub answer : Answer
    pub tables : Tables
    pub held : Held

-- what is asked of a fill, in tables of just the rows that are needed
module _ {R : Type 0} where
  -- a table stays as long as it is
  abbrev pub Keeps : Model R → Type 0
  Keeps m = (t : Tables) → Exactly m.need t → Exactly m.need (m.fill t).tables

  -- what stood in the tables before is not seen
  abbrev pub Whole : Model R → Type 0
  Whole m = (s t : Tables) → Exactly m.need s → Exactly m.need t → m.fill s ≡ m.fill t

  -- a refused link leaves zeros
  abbrev pub Zeroes : Model R → Type 0
  Zeroes m = (t : Tables) → Exactly m.need t → (z : R) → (m.fill t).ending ≡ unlinked z → (k : Table) → (m.fill t).tables k ≡ zeros m.need k

  pub record Fills (m : Model R) : Type 0 where
    pub keeps : Keeps m
    pub whole : Whole m
    pub zeroes : Zeroes m

  -- a plan whose model, if there is one, is such
  pub data Every (P : Model R → Type 0) : Planned R → Type 0 where
    none : {z : R} → Every P (refused z)
    one : {m : Model R} → P m → Every P (model m)

-- ---- a load

module _ {R : Type 0} where
  abbrev pub answer_of : Held → Linked R → Answer R
  answer_of n linked = Done n
  answer_of n (unlinked z) = Refused z

  -- the bounds after it
  abbrev pub held_after : Held → Answer R → Held
  held_after mine (Done n) = n
  held_after mine (Refused z) = mine
  held_after mine NoRoom = mine
  held_after mine Overlap = mine
  held_after mine Holding = mine

  -- everything as it was
  abbrev pub untouched : Answer R → Held → Tables → After R
  untouched a mine t = record { answer = a; tables = t; held = mine }

  abbrev pub placed_by : Side → Held → Held → Tables → Filled R → After R
  placed_by x n mine t f =
      record { answer = answer_of n f.ending; tables = placed x n f.tables t; held = held_after mine (answer_of n f.ending) }

  -- a model filled into the task's own rows: each table with its part replaced by what filling makes of that part
  unfoldable pub filled_in : Side → Model R → Held → Tables → After R
  filled_in x m mine t = placed_by x m.need mine t (m.fill (seen x m.need t))

  abbrev pub beside_for : Side → Planned R → Held → Held → Tables → After R
  beside_for x (refused z) mine other t = untouched (Refused z) mine t
  beside_for x (model m) mine other t = cond (room_beside m.need other t && m.worked) (filled_in x m mine t) (untouched NoRoom mine t)

  -- 29, 24, then the load
  unfoldable pub shared_of : Side → Planned R → Held → Held → Tables → After R
  shared_of x p mine other t =
      cond (holds mine) (untouched Holding mine t) (cond (stands t mine other) (beside_for x p mine other t) (untouched Overlap mine t))

  -- a load into tables that are the task's alone: rows in front
  abbrev pub alone_for : Planned R → Tables → After R
  alone_for (refused z) t = untouched (Refused z) nothing t
  alone_for (model m) t =
      cond (room_beside m.need nothing t && m.worked)
      (record { answer = answer_of m.need (m.fill t).ending; tables = (m.fill t).tables; held = held_after nothing (answer_of m.need (m.fill t).ending) })
      (untouched NoRoom nothing t)

  -- ---- unloading: zeros in the task's rows, and nothing held; 24 leaves all as it was

  unfoldable pub unload_of : Side → Held → Held → Tables → After R
  unload_of x mine other t =
      cond (stands t mine other) (record { answer = Done nothing; tables = cleared x mine t; held = nothing }) (untouched Overlap mine t)
