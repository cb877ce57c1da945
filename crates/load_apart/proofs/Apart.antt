-- One call beside the other task: what it changes, what the other sees, and on what its answer depends. T and T' are the tables before and after,
-- `mine` the bounds of the task that calls, `other` the other's.
use mathlib.Core.Path.{◌≡◌, refl, sym, ap, ◌∙◌, subst, fun_ext}
use mathlib.Core.Bool.{Bool, true, false, cond, ◌&&◌}
use mathlib.Core.List.{List}
use Prim.Native.Nat.{ℕ, ◌+◌, ◌*◌, ◌/◌, ◌≤◌}
use native.Mathlib.Nat.{mul-zero, mul-div_cancel_left}
use native.Mathlib.Omega.{arith}
use lib.ListN.{length, take, drop, length-replicate}
use Rattle.written.specs.Sharing.{Side, opposite, Table, Tables, Held, nothing, width, whole_rows, start_of, seen, placed, zeros, cleared, Exactly, Stand, Only, holds, stands, room_beside}
use Rattle.load_apart.specs.Loads.{Answer, Done, Refused, NoRoom, Overlap, Holding, Linked, linked, unlinked, Model, Planned, refused, model, After, Keeps, Every, none, one, answer_of, held_after, untouched, filled_in, beside_for, shared_of, unload_of}
use Rattle.load_apart.proofs.Rows.{length_own, length_put, own_put, other_put, beyond_put, beyond_none}
use Rattle.load_apart.proofs.Tests.{both, width-pos, stands_is, is_stands, room_is, holds-nothing}

-- ---- the five tables, from one

-- rows of the lengths asked for, put into tables that have them
module _ (x : Side) (n : Held) (rows t : Tables) (e : Exactly n rows) where
  pub placed_long : (k : Table) → length (placed x n rows t k) ≡ length (t k)
  placed_long k = length_put x (width k) (t k) (n k) (rows k) (e k)

  pub placed_only : Only x n t (placed x n rows t)
  placed_only k = beyond_put x (width k) (t k) (n k) (rows k) (e k)

  module _ (other : Held) (s : Stand t n other) where
    pub placed_own : seen x n (placed x n rows t) ≡ rows
    placed_own = fun_ext (λ k. own_put x (width k) (t k) (n k) (rows k) (e k) (omega (arith, s k)))

    pub placed_other : seen (opposite x) other (placed x n rows t) ≡ seen (opposite x) other t
    placed_other = fun_ext (λ k. other_put x (width k) (t k) (n k) (rows k) (e k) (other k) (s k))

pub exactly_seen : (x : Side) (n other : Held) (t : Tables) → Stand t n other → Exactly n (seen x n t)
exactly_seen x n other t s k = length_own x (width k) (t k) (n k) (omega (arith, s k))

pub exactly_zeros : (n : Held) → Exactly n (zeros n)
exactly_zeros n k = length-replicate (width k * n k) 0

-- bounds stand in any tables of the same lengths
pub stand_long : (t t' : Tables) (a b : Held) → ((k : Table) → length (t' k) ≡ length (t k)) → Stand t a b → Stand t' a b
stand_long t t' a b e s k = subst (λ (l : ℕ). a k + b k ≤ whole_rows (width k) l) (sym (e k)) (s k)

-- tables of just these rows have them
pub stand_exactly : (n : Held) (t : Tables) → Exactly n t → Stand t n nothing
stand_exactly n t e k =
    let r : length (t k) / width k ≡ n k = ap (λ (l : ℕ). l / width k) (e k) ∙ mul-div_cancel_left (n k) (width-pos k) in omega arith

-- a task that holds nothing sees no row
pub seen_nothing : (x y : Side) (s t : Tables) → seen x nothing s ≡ seen y nothing t
seen_nothing x y s t = fun_ext (λ k. none x s k ∙ sym (none y t k))
  where
    none : (x : Side) (t : Tables) (k : Table) → seen x nothing t k ≡ List.[]
    none x t k = ap (λ (n : ℕ). take n (drop (start_of x (width k) (length (t k)) 0) (t k))) (mul-zero (width k))

-- ---- the ways through a load

module _ {R : Type 0} where
  -- a number that no fill answers
  pub data Quiet : Answer R → Type 0 where
    room : Quiet NoRoom
    overlap : Quiet Overlap
    holding : Quiet Holding

  pub data Went (P : Model R → Type 0) (x : Side) (mine other : Held) (t : Tables) : Planned R → After R → Type 0 where
    stays : {p : Planned R} {a : Answer R} → Quiet a → Went P x mine other t p (untouched a mine t)
    judged : {z : R} → Went P x mine other t (refused z) (untouched (Refused z) mine t)
    fills : {m : Model R} → P m → mine ≡ nothing → Stand t m.need other → m.worked ≡ true → Went P x mine other t (model m) (filled_in x m mine t)

  module _ (P : Model R → Type 0) (x : Side) (mine other : Held) (t : Tables) where
    went_room : (m : Model R) → P m → mine ≡ nothing → Stand t mine other → (b : Bool) → (room_beside m.need other t && m.worked) ≡ b
        → Went P x mine other t (model m) (cond b (filled_in x m mine t) (untouched NoRoom mine t))
    went_room m l n s true e =
        let r = both (room_beside m.need other t) m.worked e in
        fills l n (room_is m.need other t (subst (λ (h : Held). Stand t h other) n s) r.0) r.1
    went_room m l n s false e = stays room

    went_beside : {p : Planned R} → Every P p → mine ≡ nothing → Stand t mine other → Went P x mine other t p (beside_for x p mine other t)
    went_beside none n s = judged
    went_beside (one {m} l) n s = went_room m l n s (room_beside m.need other t && m.worked) refl

    pub went : {p : Planned R} → Every P p → Went P x mine other t p (shared_of x p mine other t)
    unfolding shared_of
    went {p} l = go (holds mine) refl (stands t mine other) refl
      where
        go : (b : Bool) → holds mine ≡ b → (c : Bool) → stands t mine other ≡ c
            → Went P x mine other t p (cond b (untouched Holding mine t) (cond c (beside_for x p mine other t) (untouched Overlap mine t)))
        go true e c f = stays holding
        go false e true f = went_beside l (holds-nothing mine e) (stands_is t mine other f)
        go false e false f = stays overlap

  -- ---- what a load changes

  module _ (x : Side) (m : Model R) (k : Keeps m) (mine other : Held) (t : Tables) (s : Stand t m.need other) where
    pub rows_exact : Exactly m.need (m.fill (seen x m.need t)).tables
    rows_exact = k (seen x m.need t) (exactly_seen x m.need other t s)

    pub filled_own : seen x m.need (filled_in x m mine t).tables ≡ (m.fill (seen x m.need t)).tables
    unfolding filled_in
    filled_own = placed_own x m.need (m.fill (seen x m.need t)).tables t rows_exact other s

    pub filled_other : seen (opposite x) other (filled_in x m mine t).tables ≡ seen (opposite x) other t
    unfolding filled_in
    filled_other = placed_other x m.need (m.fill (seen x m.need t)).tables t rows_exact other s

    pub filled_only : Only x m.need t (filled_in x m mine t).tables
    unfolding filled_in
    filled_only = placed_only x m.need (m.fill (seen x m.need t)).tables t rows_exact

    pub filled_stand : Stand t mine other → Stand (filled_in x m mine t).tables (filled_in x m mine t).held other
    unfolding filled_in
    filled_stand g =
        stand_long t (placed x m.need (m.fill (seen x m.need t)).tables t) _ other (placed_long x m.need (m.fill (seen x m.need t)).tables t rows_exact)
        (at (m.fill (seen x m.need t)).ending)
      where
        at : (o : Linked R) → Stand t (held_after mine (answer_of m.need o)) other
        at linked = s
        at (unlinked z) = g

  -- what each theorem below says of the load's result, of any way through
  module _ (x : Side) (mine other : Held) (t : Tables) where
    went_rows : {p : Planned R} {r : After R} → Went Keeps x mine other t p r → seen (opposite x) other r.tables ≡ seen (opposite x) other t
    went_rows (stays q) = refl
    went_rows judged = refl
    went_rows (fills {m} k n s w) = filled_other x m k mine other t s

    went_stand : {p : Planned R} {r : After R} → Went Keeps x mine other t p r → Stand t mine other → Stand r.tables r.held other
    went_stand (stays q) g = g
    went_stand judged g = g
    went_stand (fills {m} k n s w) g = filled_stand x m k mine other t s g

  -- nothing but the rows needed
  module _ (x : Side) (mine other : Held) (t : Tables) where
    went_only : (m : Model R) {p : Planned R} {r : After R} → Went Keeps x mine other t p r → p ≡ model m → Only x m.need t r.tables
    went_only m (stays q) e = λ k. beyond_none x (width k) (t k) (m.need k)
    went_only m judged e = λ k. beyond_none x (width k) (t k) (m.need k)
    went_only m (fills {m = m₁} k n s w) e = subst (λ (m : Model R). Only x m.need t (filled_in x m₁ mine t).tables) (same m₁ m e) (filled_only x m₁ k mine other t s)
      where
        same : (a b : Model R) → model a ≡ model b → a ≡ b
        same a b e = cc

  -- no fill answers one of these
  pub loud : {a : Answer R} → Quiet a → (n : Held) (o : Linked R) → answer_of n o ≡ a → ⊥
  loud room n linked e = let u : ◌≡◌ {A = ℕ} 0 1 = cc in omega arith
  loud room n (unlinked z) e = let u : ◌≡◌ {A = ℕ} 0 1 = cc in omega arith
  loud overlap n linked e = let u : ◌≡◌ {A = ℕ} 0 1 = cc in omega arith
  loud overlap n (unlinked z) e = let u : ◌≡◌ {A = ℕ} 0 1 = cc in omega arith
  loud holding n linked e = let u : ◌≡◌ {A = ℕ} 0 1 = cc in omega arith
  loud holding n (unlinked z) e = let u : ◌≡◌ {A = ℕ} 0 1 = cc in omega arith

  pub any : (p : Planned R) → Every (λ m. Unit {0}) p
  any (refused z) = none
  any (model m) = one tt

  module _ (x : Side) (mine other : Held) (t : Tables) where
    -- the other sees the same rows after it
    pub rows_apart : {p : Planned R} → Every Keeps p → seen (opposite x) other (shared_of x p mine other t).tables ≡ seen (opposite x) other t
    rows_apart l = went_rows x mine other t (went Keeps x mine other t l)

    -- bounds that are handed back stand
    pub bounds_stand : {p : Planned R} → Every Keeps p → Stand t mine other → Stand (shared_of x p mine other t).tables (shared_of x p mine other t).held other
    bounds_stand l = went_stand x mine other t (went Keeps x mine other t l)

    -- in each table no number differs but those of the rows needed, where this task has them
    pub nothing_else : (m : Model R) → Keeps m → Only x m.need t (shared_of x (model m) mine other t).tables
    nothing_else m k = went_only x mine other t m (went Keeps x mine other t (one k)) refl

    -- 20, 24, 29 leave everything
    pub as_it_was : (p : Planned R) {a : Answer R} → Quiet a → (shared_of x p mine other t).answer ≡ a → shared_of x p mine other t ≡ untouched a mine t
    unfolding filled_in
    as_it_was p {a} q e = go (went (λ m. Unit {0}) x mine other t (any p)) e
      where
        go : {p : Planned R} {r : After R} → Went (λ m. Unit {0}) x mine other t p r → r.answer ≡ a → r ≡ untouched a mine t
        go (stays {a = b} k) e = ap (λ (c : Answer R). untouched c mine t) e
        go (judged {z}) e = absurd (loud q nothing (unlinked z) e)
        go (fills {m} k n s w) e = absurd (loud q m.need (m.fill (seen x m.need t)).ending e)

    -- and so does a file that is refused
    pub refused_as_it_was : (z : R) → (shared_of x (refused z) mine other t).tables ≡ t
    refused_as_it_was z = go (went Keeps x mine other t (none {z = z})) refl
      where
        go : {p : Planned R} {r : After R} → Went Keeps x mine other t p r → p ≡ refused z → r.tables ≡ t
        go (stays q) e = refl
        go judged e = refl
        go (fills {m} k n s w) e = let u : ◌≡◌ {A = ℕ} 0 1 = cc in absurd (omega arith)

-- ---- what an unload changes: zeros in its rows, and nothing else

module _ (R : Type 0) (x : Side) (mine other : Held) (t : Tables) where
  pub data Unloaded : After R → Type 0 where
    stays : Unloaded (untouched Overlap mine t)
    clears : Stand t mine other → Unloaded (record { answer = Done nothing; tables = cleared x mine t; held = nothing })

  pub unloaded : Unloaded (unload_of x mine other t)
  unfolding unload_of
  unloaded = go (stands t mine other) refl
    where
      go : (b : Bool) → stands t mine other ≡ b → Unloaded (cond b (record { answer = Done nothing; tables = cleared x mine t; held = nothing }) (untouched Overlap mine t))
      go true e = clears (stands_is t mine other e)
      go false e = stays

  pub unload_is : Stand t mine other → ◌≡◌ {A = After R} (unload_of x mine other t) (record { answer = Done nothing; tables = cleared x mine t; held = nothing })
  unfolding unload_of
  unload_is s = ap (λ (b : Bool). cond b (record { answer = Done nothing; tables = cleared x mine t; held = nothing }) (untouched Overlap mine t)) (is_stands t mine other s)

  pub unload_clears : Stand t mine other → seen x mine (unload_of {R = R} x mine other t).tables ≡ zeros mine
  unload_clears s = ap (λ (r : After R). seen x mine r.tables) (unload_is s) ∙ placed_own x mine (zeros mine) t (exactly_zeros mine) other s

  pub unload_nothing_else : Only x mine t (unload_of {R = R} x mine other t).tables
  unload_nothing_else = go unloaded
    where
      go : {r : After R} → Unloaded r → Only x mine t r.tables
      go stays = λ k. beyond_none x (width k) (t k) (mine k)
      go (clears s) = placed_only x mine (zeros mine) t (exactly_zeros mine)

  pub unload_rows_apart : seen (opposite x) other (unload_of {R = R} x mine other t).tables ≡ seen (opposite x) other t
  unload_rows_apart = go unloaded
    where
      go : {r : After R} → Unloaded r → seen (opposite x) other r.tables ≡ seen (opposite x) other t
      go stays = refl
      go (clears s) = placed_other x mine (zeros mine) t (exactly_zeros mine) other s

  pub unload_bounds_stand : Stand t mine other → Stand (unload_of {R = R} x mine other t).tables (unload_of {R = R} x mine other t).held other
  unload_bounds_stand g = go unloaded
    where
      go : {r : After R} → Unloaded r → Stand r.tables r.held other
      go stays = g
      go (clears s) =
          stand_long t (cleared x mine t) nothing other (placed_long x mine (zeros mine) t (exactly_zeros mine)) (λ k. omega (arith, s k))
