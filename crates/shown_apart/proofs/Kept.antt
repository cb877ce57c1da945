-- Each theorem of `load_apart`, of this library's loads, with nothing left to ask: of any file, words and model's number, any bounds and tables.
use mathlib.Core.Path.{◌≡◌}
use mathlib.Core.List.{List}
use Prim.Native.Nat.{ℕ}
use lib.IntN.{ℤ}
use Rattle.written.specs.Sharing.{Side, opposite, Tables, Held, nothing, seen, zeros, Exactly, Stand, Only}
use Rattle.error.specs.declared.Refusal.{Refusal}
use Rattle.load_plan.specs.Plans.{Sound}
use Rattle.load_plan.specs.declared.Plan.{Plan}
use Rattle.load_apart.specs.Loads.{Refused, Model, Planned, model, After, Keeps, Fills, Every, none, one, shared_of}
use Rattle.load_apart.proofs.Apart as apart
use Rattle.load_apart.proofs.Alone as alone
use Rattle.load_apart.proofs.Alone.{AsAlone, Reached, SameRoom, Agree}
use Rattle.load_bounds.specs.Bounds.{need_of}
use Rattle.shown_apart.specs.Real.{model_of, planned_of}
use Rattle.shown_apart.proofs.Fills.{model_fills, words_fill}

pub keeps_of : {p : Planned Refusal} → Every Fills p → Every Keeps p
keeps_of none = none
keeps_of (one f) = one f.keeps

-- ---- the theorems of `load_apart`, of any file, words and number

module _ (s u : List ℕ) (n : ℕ) (w : List ℤ) (x : Side) (mine other : Held) (t : Tables) where
  abbrev G : After Refusal
  G = shared_of x (planned_of s u n w) mine other t

  pub rows_apart : seen (opposite x) other G.tables ≡ seen (opposite x) other t
  rows_apart = apart.rows_apart x mine other t (keeps_of (words_fill s u n w))

  pub bounds_stand : Stand t mine other → Stand G.tables G.held other
  bounds_stand = apart.bounds_stand x mine other t (keeps_of (words_fill s u n w))

  -- the other is seen in nothing but whether the rows fit
  pub answer_apart : (y : Side) (other' : Held) (t' : Tables) → Stand t mine other → Stand t' mine other' → SameRoom (planned_of s u n w) other t other' t'
      → (G.answer ≡ (shared_of y (planned_of s u n w) mine other' t').answer) × (G.held ≡ (shared_of y (planned_of s u n w) mine other' t').held)
  answer_apart y other' t' g g' r = alone.answer_apart (planned_of s u n w) (words_fill s u n w) x y mine other other' t t' g g' r

  pub loads_agree : (y : Side) (other' : Held) (t' : Tables) → Stand t mine other → Stand t' mine other' → SameRoom (planned_of s u n w) other t other' t'
      → seen x mine t ≡ seen y mine t' → Agree x y G (shared_of y (planned_of s u n w) mine other' t')
  loads_agree y other' t' g g' r = alone.loads_agree (planned_of s u n w) (words_fill s u n w) x y mine other other' t t' g g' r

-- of a plan
module _ (d : List ℕ) (p : Plan) (sound : Sound d p) (w : List ℤ) (x : Side) (mine other : Held) (t : Tables) where
  abbrev M : Model Refusal
  M = model_of d p w

  pub nothing_else : Only x (need_of p) t (shared_of x (model M) mine other t).tables
  nothing_else = apart.nothing_else x mine other t M (model_fills d p sound w).keeps

  pub own_as_alone : (a : Tables) → Exactly (need_of p) a → Reached (shared_of x (model M) mine other t).answer → AsAlone x M a (shared_of x (model M) mine other t)
  own_as_alone = alone.own_as_alone x M (model_fills d p sound w) mine other t

  pub own_zero : (z : Refusal) → (shared_of x (model M) mine other t).answer ≡ Refused z
      → (seen x (need_of p) (shared_of x (model M) mine other t).tables ≡ zeros (need_of p)) × ((shared_of x (model M) mine other t).held ≡ nothing)
  own_zero = alone.own_zero x M (model_fills d p sound w) mine other t
