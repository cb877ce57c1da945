-- Calls of both tasks, one after another, from tables in which both hold nothing: a task's rows, bounds and answers are those of its own calls
-- alone, in tables of its own.
use mathlib.Core.Path.{◌≡◌, refl, sym, ap, ap₂, ◌∙◌, subst, subst₂}
use mathlib.Core.Bool.{Bool, true, false, cond, ◌&&◌}
use mathlib.Core.List.{List, [], ◌∷◌}
use Prim.Native.Nat.{ℕ, ◌≤◌}
use native.Mathlib.Omega.{arith}
use lib.IntN.{ℤ}
use lib.ListN.{length}
use borrow.Author.Tests.{not-true, not-false}
use Rattle.written.specs.Sharing.{Side, bottom, top, opposite, Table, Tables, Held, nothing, width, whole_rows, seen, cleared, Stand, holds, room_beside}
use Rattle.error.specs.declared.Refusal.{Refusal}
use Rattle.load_apart.specs.Loads.{Answer, Done, Refused, NoRoom, Overlap, Holding, Planned, model, After, Keeps, Fills, Every, none, one, untouched, filled_in, shared_of}
use Rattle.shown_apart.specs.Real.{planned_of}
use Rattle.shown_apart.specs.Calls.{State, empty, with_held, Call, load, unload, Turn, EveryCall, loads, unloads, EveryTurn, more, called, turned, next, run, answers, is_no_room, counts, kept, told}
use Rattle.shown_apart.proofs.Fills.{words_fill}
use Rattle.load_apart.proofs.Tests.{both, room_is, is_room, holds-nothing}
use Rattle.load_apart.proofs.Apart.{Quiet, as_it_was, Unloaded, stays, clears, unloaded, seen_nothing, rows_apart, bounds_stand, nothing_else, refused_as_it_was, unload_is, unload_nothing_else, unload_rows_apart, unload_bounds_stand}
use Rattle.load_apart.proofs.Alone.{SameRoom, Agree, shared_held, shared_beside, beside_agree}

-- as many whole rows at least
abbrev pub Wider : Tables → Tables → Type 0
Wider t t' = (k : Table) → whole_rows (width k) (length (t k)) ≤ whole_rows (width k) (length (t' k))

stand_wider : (t t' : Tables) (a b : Held) → Wider t t' → Stand t a b → Stand t' a nothing
stand_wider t t' a b w s k = omega (arith, w k, s k)

stand_turned : (t : Tables) (a b : Held) → Stand t a b → Stand t b a
stand_turned t a b s k = omega (arith, s k)

wider_long : (t t' u u' : Tables) → ((k : Table) → length (u k) ≡ length (t k)) → ((k : Table) → length (u' k) ≡ length (t' k)) → Wider t t' → Wider u u'
wider_long t t' u u' e e' w k = subst₂ (λ (m n : ℕ). whole_rows (width k) m ≤ whole_rows (width k) n) (sym (e k)) (sym (e' k)) (w k)

module _ {R : Type 0} where
  keeps_of : {p : Planned R} → Every Fills p → Every Keeps p
  keeps_of none = none
  keeps_of (one f) = one f.keeps

  -- ---- one call of either task

  called_long : (x : Side) (mine other : Held) (t : Tables) {c : Call R} → EveryCall Fills c → (k : Table) → length ((called x c mine other t).tables k) ≡ length (t k)
  called_long x mine other t (loads (none {z})) k = ap (λ (u : Tables). length (u k)) (refused_as_it_was x mine other t z)
  called_long x mine other t (loads (one {m} f)) k = (nothing_else x mine other t m f.keeps k).long
  called_long x mine other t unloads k = (unload_nothing_else R x mine other t k).long

  called_stand : (x : Side) (mine other : Held) (t : Tables) {c : Call R} → EveryCall Fills c → Stand t mine other → Stand (called x c mine other t).tables (called x c mine other t).held other
  called_stand x mine other t (loads l) = bounds_stand x mine other t (keeps_of l)
  called_stand x mine other t unloads = unload_bounds_stand R x mine other t

  called_rows : (x : Side) (mine other : Held) (t : Tables) {c : Call R} → EveryCall Fills c → seen (opposite x) other (called x c mine other t).tables ≡ seen (opposite x) other t
  called_rows x mine other t (loads l) = rows_apart x mine other t (keeps_of l)
  called_rows x mine other t unloads = unload_rows_apart R x mine other t

  -- ---- a call of the task that isn't answered 20, and the same call in wider tables that are its own

  module _ (x : Side) (mine other : Held) (t t' : Tables) (g : Stand t mine other) (w : Wider t t') (e : seen x mine t ≡ seen x mine t') where
    load_step : {p : Planned R} → Every Fills p → is_no_room (shared_of x p mine other t).answer ≡ false → Agree x x (shared_of x p mine other t) (shared_of x p mine nothing t')
    load_step {p} l a = go (holds mine) refl
      where
        room : {p : Planned R} → Every Fills p → holds mine ≡ false → is_no_room (shared_of x p mine other t).answer ≡ false → SameRoom p other t nothing t'
        room none h a = tt
        room (one {m} f) h a = at (room_beside m.need other t && m.worked) refl
          where
            fits : (b : Bool) → (room_beside m.need other t && m.worked) ≡ b → is_no_room (cond b (filled_in x m mine t) (untouched NoRoom mine t)).answer ≡ false → b ≡ true
            fits true e a = refl
            fits false e a = let u : ◌≡◌ {A = ℕ} 0 1 = cc in absurd (omega arith)

            at : (b : Bool) → (room_beside m.need other t && m.worked) ≡ b → room_beside m.need other t ≡ room_beside m.need nothing t'
            at b q =
                let v = fits (room_beside m.need other t && m.worked) refl (subst (λ (r : After R). is_no_room r.answer ≡ false) (shared_beside x (model m) mine other t h g) a) in
                let r = (both (room_beside m.need other t) m.worked v).0 in
                let s = room_is m.need other t (subst (λ (h : Held). Stand t h other) (holds-nothing mine h) g) r in
                r ∙ sym (is_room m.need nothing t' (stand_wider t t' m.need other w s))

        go : (b : Bool) → holds mine ≡ b → Agree x x (shared_of x p mine other t) (shared_of x p mine nothing t')
        go true h = subst₂ (Agree x x) (sym (shared_held x p mine other t h)) (sym (shared_held x p mine nothing t' h)) (record { answer = refl; held = refl; rows = e })
        go false h =
            subst₂ (Agree x x) (sym (shared_beside x p mine other t h g)) (sym (shared_beside x p mine nothing t' h (stand_wider t t' mine other w g)))
            (beside_agree x x mine other nothing t t' l (holds-nothing mine h) g (stand_wider t t' mine other w g) (room l h a))

    call_step : {c : Call R} → EveryCall Fills c → is_no_room (called x c mine other t).answer ≡ false → Agree x x (called x c mine other t) (called x c mine nothing t')
    call_step (loads l) a = load_step l a
    call_step unloads a =
        subst₂ (Agree x x) (sym (unload_is R x mine other t g)) (sym (unload_is R x mine nothing t' (stand_wider t t' mine other w g)))
        (record { answer = refl; held = refl; rows = seen_nothing x x (cleared x mine t) (cleared x mine t') })

-- ---- states

-- a state of both, and one of a task alone: the same bounds and rows of the task
pub record Alike (x : Side) (s a : State) : Type 0 where
  pub held : s.held x ≡ a.held x
  pub rows : seen x (s.held x) s.tables ≡ seen x (a.held x) a.tables
  pub stand : Stand s.tables (s.held x) (s.held (opposite x))
  pub alone : a.held (opposite x) ≡ nothing
  pub wider : Wider s.tables a.tables

pub alike_empty : (x : Side) (t t' : Tables) → Wider t t' → Alike x (empty t) (empty t')
alike_empty x t t' w = record { held = refl; rows = seen_nothing x x t t'; stand = λ k. omega arith; alone = refl; wider = w }

module _ {R : Type 0} where
  -- what a turn of x makes of both
  module _ (x : Side) {c : Call R} (l : EveryCall Fills c) (s a : State) (h : Alike x s a) where
    agrees : is_no_room (called x c (s.held x) (s.held (opposite x)) s.tables).answer ≡ false
        → Agree x x (called x c (s.held x) (s.held (opposite x)) s.tables) (called x c (a.held x) (a.held (opposite x)) a.tables)
    agrees n =
        subst₂ (λ (mine other : Held). Agree x x (called x c (s.held x) (s.held (opposite x)) s.tables) (called x c mine other a.tables)) h.held (sym h.alone)
        (call_step x (s.held x) (s.held (opposite x)) s.tables a.tables h.stand h.wider (h.rows ∙ sym (ap (λ (m : Held). seen x m a.tables) h.held)) l n)

  after : Side → After R → State → State
  after x r s = record { tables = r.tables; held = with_held x r.held s.held }

  own_after : (x : Side) (s a : State) (r r' : After R) → Alike x s a → Agree x x r r' → Stand r.tables r.held (s.held (opposite x)) → Wider r.tables r'.tables → Alike x (after x r s) (after x r' a)
  unfolding after
  own_after bottom s a r r' h g t w = record { held = g.held; rows = g.rows; stand = t; alone = h.alone; wider = w }
  own_after top s a r r' h g t w = record { held = g.held; rows = g.rows; stand = t; alone = h.alone; wider = w }

  -- a turn of the task, not answered 20, in both
  own_turn : (x : Side) (c : Call R) → EveryCall Fills c → (s a : State) → Alike x s a → is_no_room (called x c (s.held x) (s.held (opposite x)) s.tables).answer ≡ false
      → ((called x c (s.held x) (s.held (opposite x)) s.tables).answer ≡ (called x c (a.held x) (a.held (opposite x)) a.tables).answer)
      × Alike x (after x (called x c (s.held x) (s.held (opposite x)) s.tables) s) (after x (called x c (a.held x) (a.held (opposite x)) a.tables) a)
  own_turn x c l s a h n =
      let g = agrees x l s a h n in (
        g.answer,
        own_after x s a (called x c (s.held x) (s.held (opposite x)) s.tables) (called x c (a.held x) (a.held (opposite x)) a.tables) h g (called_stand x (s.held x) (s.held (opposite x)) s.tables l h.stand)
            (wider_long s.tables a.tables (called x c (s.held x) (s.held (opposite x)) s.tables).tables (called x c (a.held x) (a.held (opposite x)) a.tables).tables (called_long x (s.held x) (s.held (opposite x)) s.tables l) (called_long x (a.held x) (a.held (opposite x)) a.tables l) h.wider),
      )

  -- a turn of the other task, which the task alone doesn't have
  other_turn : (x : Side) (c : Call R) → EveryCall Fills c → (s a : State) → Alike x s a
      → Alike x (after (opposite x) (called (opposite x) c (s.held (opposite x)) (s.held (opposite (opposite x))) s.tables) s) a
  unfolding after
  other_turn bottom c l s a h =
      record {
        held = h.held;
        rows = called_rows top (s.held top) (s.held bottom) s.tables l ∙ h.rows;
        stand = stand_turned (called top c (s.held top) (s.held bottom) s.tables).tables (called top c (s.held top) (s.held bottom) s.tables).held (s.held bottom) (called_stand top (s.held top) (s.held bottom) s.tables l (stand_turned s.tables (s.held bottom) (s.held top) h.stand));
        alone = h.alone;
        wider = wider_long s.tables a.tables (called top c (s.held top) (s.held bottom) s.tables).tables a.tables (called_long top (s.held top) (s.held bottom) s.tables l) (λ k. refl) h.wider;
      }
  other_turn top c l s a h =
      record {
        held = h.held;
        rows = called_rows bottom (s.held bottom) (s.held top) s.tables l ∙ h.rows;
        stand = stand_turned (called bottom c (s.held bottom) (s.held top) s.tables).tables (called bottom c (s.held bottom) (s.held top) s.tables).held (s.held top) (called_stand bottom (s.held bottom) (s.held top) s.tables l (stand_turned s.tables (s.held top) (s.held bottom) h.stand));
        alone = h.alone;
        wider = wider_long s.tables a.tables (called bottom c (s.held bottom) (s.held top) s.tables).tables a.tables (called_long bottom (s.held bottom) (s.held top) s.tables l) (λ k. refl) h.wider;
      }

  -- a turn of the task that is answered 20, which the task alone leaves out
  no_room : (b : Answer R) → is_no_room b ≡ true → b ≡ NoRoom
  no_room (Done n) e = let u : ◌≡◌ {A = ℕ} 0 1 = cc in absurd (omega arith)
  no_room (Refused z) e = let u : ◌≡◌ {A = ℕ} 0 1 = cc in absurd (omega arith)
  no_room NoRoom e = refl
  no_room Overlap e = let u : ◌≡◌ {A = ℕ} 0 1 = cc in absurd (omega arith)
  no_room Holding e = let u : ◌≡◌ {A = ℕ} 0 1 = cc in absurd (omega arith)

  stays_after : (x : Side) (s a : State) (r : After R) → r ≡ untouched NoRoom (s.held x) s.tables → Alike x s a → Alike x (after x r s) a
  unfolding after
  stays_after bottom s a r e h =
      subst (λ (r : After R). Alike bottom (after bottom r s) a) (sym e) (record { held = h.held; rows = h.rows; stand = h.stand; alone = h.alone; wider = h.wider })
  stays_after top s a r e h =
      subst (λ (r : After R). Alike top (after top r s) a) (sym e) (record { held = h.held; rows = h.rows; stand = h.stand; alone = h.alone; wider = h.wider })

  full_turn : (x : Side) (c : Call R) (s a : State) → Alike x s a → is_no_room (called x c (s.held x) (s.held (opposite x)) s.tables).answer ≡ true
      → Alike x (after x (called x c (s.held x) (s.held (opposite x)) s.tables) s) a
  full_turn x (load p) s a h n =
      stays_after x s a (shared_of x p (s.held x) (s.held (opposite x)) s.tables) (as_it_was x (s.held x) (s.held (opposite x)) s.tables p Quiet.room (no_room (shared_of x p (s.held x) (s.held (opposite x)) s.tables).answer n)) h
  full_turn x unload s a h n = absurd (go (unloaded R x (s.held x) (s.held (opposite x)) s.tables) n)
    where
      go : {r : After R} → Unloaded R x (s.held x) (s.held (opposite x)) s.tables r → is_no_room r.answer ≡ true → ⊥
      go stays e = let u : ◌≡◌ {A = ℕ} 0 1 = cc in omega arith
      go (clears g) e = let u : ◌≡◌ {A = ℕ} 0 1 = cc in omega arith

  -- a turn that counts, in both; any other, in the one of both tasks
  counted : (x y : Side) (c : Call R) → EveryCall Fills c → (s a : State) → Alike x s a → counts x (record { task = y; call = c }) s ≡ true
      → ((turned (record { task = y; call = c }) s).answer ≡ (turned (record { task = y; call = c }) a).answer) × Alike x (next (record { task = y; call = c }) s) (next (record { task = y; call = c }) a)
  unfolding after
  counted bottom bottom c l s a h e = own_turn bottom c l s a h (not-true _ e)
  counted top top c l s a h e = own_turn top c l s a h (not-true _ e)
  counted bottom top c l s a h e = let u : ◌≡◌ {A = ℕ} 0 1 = cc in absurd (omega arith)
  counted top bottom c l s a h e = let u : ◌≡◌ {A = ℕ} 0 1 = cc in absurd (omega arith)

  passed : (x y : Side) (c : Call R) → EveryCall Fills c → (s a : State) → Alike x s a → counts x (record { task = y; call = c }) s ≡ false → Alike x (next (record { task = y; call = c }) s) a
  unfolding after
  passed bottom bottom c l s a h e = full_turn bottom c s a h (not-false _ e)
  passed top top c l s a h e = full_turn top c s a h (not-false _ e)
  passed bottom top c l s a h e = other_turn bottom c l s a h
  passed top bottom c l s a h e = other_turn top c l s a h

  -- ---- calls one after another

  pub alike_run : (x : Side) (cs : List (Turn R)) → EveryTurn Fills cs → (s a : State) → Alike x s a → Alike x (run cs s) (run (kept x cs s) a) × (told x cs s ≡ answers (kept x cs s) a)
  unfolding run kept told answers
  alike_run x [] EveryTurn.none s a h = (h, refl)
  alike_run x (c ∷ cs) (more l ls) s a h = go (alike_run x cs ls (next c s)) (counts x c s) refl
    where
      go : ((a : State) → Alike x (next c s) a → Alike x (run cs (next c s)) (run (kept x cs (next c s)) a) × (told x cs (next c s) ≡ answers (kept x cs (next c s)) a))
          → (b : Bool) → counts x c s ≡ b
          → Alike x (run cs (next c s)) (run (cond b (c ∷ kept x cs (next c s)) (kept x cs (next c s))) a)
          × (cond b ((turned c s).answer ∷ told x cs (next c s)) (told x cs (next c s)) ≡ answers (cond b (c ∷ kept x cs (next c s)) (kept x cs (next c s))) a)
      go ih true e =
          let p = counted x c.task c.call l s a h e in
          let q = ih (next c a) p.1 in
          (q.0, ap₂ (λ (b : Answer R) (bs : List (Answer R)). b ∷ bs) p.0 q.1)
      go ih false e = ih a (passed x c.task c.call l s a h e)

  -- From tables in which both hold nothing: the bounds, the rows and the answers of a task after any calls of both are those after its own calls alone, without its
  -- loads that were answered 20, in any tables of its own that have as many whole rows at least.
  pub runs_apart : (x : Side) (cs : List (Turn R)) → EveryTurn Fills cs → (t t' : Tables) → Wider t t'
      → ((run cs (empty t)).held x ≡ (run (kept x cs (empty t)) (empty t')).held x)
      × (seen x ((run cs (empty t)).held x) (run cs (empty t)).tables ≡ seen x ((run (kept x cs (empty t)) (empty t')).held x) (run (kept x cs (empty t)) (empty t')).tables)
      × (told x cs (empty t) ≡ answers (kept x cs (empty t)) (empty t'))
  runs_apart x cs l t t' w =
      let r = alike_run x cs l (empty t) (empty t') (alike_empty x t t' w) in
      (r.0.held, r.0.rows, r.1)

-- ---- the calls of this library

-- a load of a file, words, a model's number and the work lent, or an unload
pub data Asked : Type 0 where
  loading : List ℕ → List ℕ → ℕ → List ℤ → Asked
  unloading : Asked

-- whose
pub record Asks : Type 0 where
  pub task : Side
  pub asked : Asked

abbrev pub call_of : Asked → Call Refusal
call_of (loading s u n w) = load (planned_of s u n w)
call_of unloading = unload

unfoldable pub turns_of : List Asks → List (Turn Refusal)
turns_of [] = []
turns_of (a ∷ asks) = record { task = a.task; call = call_of a.asked } ∷ turns_of asks

call_fills : (a : Asked) → EveryCall Fills (call_of a)
call_fills (loading s u n w) = loads (words_fill s u n w)
call_fills unloading = unloads

turns_fill : (asks : List Asks) → EveryTurn Fills (turns_of asks)
unfolding turns_of
turns_fill [] = EveryTurn.none
turns_fill (a ∷ asks) = more (call_fills a.asked) (turns_fill asks)

-- any calls of both, of any files, words and numbers
pub calls_apart : (x : Side) (asks : List Asks) (t t' : Tables) → Wider t t'
    → ((run (turns_of asks) (empty t)).held x ≡ (run (kept x (turns_of asks) (empty t)) (empty t')).held x)
    × (seen x ((run (turns_of asks) (empty t)).held x) (run (turns_of asks) (empty t)).tables
    ≡ seen x ((run (kept x (turns_of asks) (empty t)) (empty t')).held x) (run (kept x (turns_of asks) (empty t)) (empty t')).tables)
    × (told x (turns_of asks) (empty t) ≡ answers (kept x (turns_of asks) (empty t)) (empty t'))
calls_apart x asks t t' w = runs_apart x (turns_of asks) (turns_fill asks) t t' w
