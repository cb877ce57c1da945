-- Each way through a shared load and an unload.
use mathlib.Core.Path.{◌≡◌, refl, sym, ap, ap₂, ◌∙◌, subst, fun_ext}
use mathlib.Core.Bool.{Bool, true, false, cond, ◌&&◌}
use mathlib.Core.List.{List}
use Prim.Native.Nat.{ℕ, ◌≤◌, ◌<◌}
use lib.Dec.{leb}
use lib.ListN.{length, get_or}
use borrow.Author.Tests.{lt-leb, le-leb}
use Rattle.written.specs.Sharing.{Table, questions, patterns, trees, records, values, Tables, Held, holds, stands, cleared}
use Rattle.error.specs.declared.Refusal.{Refusal}
use Rattle.load_model.specs.Load.{Tables as Lent}
use Rattle.load_apart.specs.Loads.{Done, Overlap, untouched as as_it_was, unload_of}
use Rattle.load_shared.specs.Beside.{rows_of}
use Rattle.load_bounds.specs.Bounds.{held_of, tables_of, stands_at}
use Rattle.load_unload.specs.Unloads.{Tabled, Unloads}
use Rattle.load_bounds.specs.declared.Held.{Held as Bounds}
use Rattle.load_bounds.proofs.Laws.{stands_at_lem}
use Rattle.face_model.specs.declared.Rows.{Rows}
use Rattle.face_load.specs.Answers.{Filled, untouched, filled_of, LoadSaid}
use Rattle.face_shared.specs.Answers.{held_at, side_at, standing, shared_of, SharedSaid, unloaded_of, UnloadSaid}

-- five numbers, one by one
pub bounds_are : (l : List ℕ) (h : Bounds) → h.questions ≡ get_or l 0 0 → h.patterns ≡ get_or l 1 0 → h.trees ≡ get_or l 2 0 → h.records ≡ get_or l 3 0 → h.values ≡ get_or l 4 0 → held_of h ≡ held_at l
bounds_are l h a b c d e = fun_ext at
  where
    at : (k : Table) → held_of h k ≡ held_at l k
    at questions = a
    at patterns = b
    at trees = c
    at records = d
    at values = e

-- the test of the side
pub standing_past : (d : ℕ) (b : Bool) → 1 < d → false ≡ (leb d 1 && b)
standing_past d b h = sym (ap (λ (c : Bool). c && b) (lt-leb d 1 h))

pub standing_in : (d : ℕ) {r : Bool} (b : Bool) → d ≤ 1 → r ≡ b → r ≡ (leb d 1 && b)
standing_in d b h e = e ∙ sym (ap (λ (c : Bool). c && b) (le-leb d 1 h))

-- ---- a load

module _ (s w : List ℕ) (n d : ℕ) (mine other : Held) (T : Lent) where
  pub shared_held : holds mine ≡ true → SharedSaid s w n d mine other T (untouched 29 T).rows T
  unfolding shared_of
  shared_held h =
      let e = ap (λ (b : Bool). cond b (untouched 29 T) (cond (standing d mine other (rows_of T)) (filled_of s w n (side_at d) other T) (untouched 24 T))) h in
      (sym (ap (λ (o : Filled). o.rows) e), sym (ap (λ (o : Filled). o.tables) e))

  module _ (h : holds mine ≡ false) where
    by_standing : (b : Bool) → standing d mine other (rows_of T) ≡ b → shared_of s w n d mine other T ≡ cond b (filled_of s w n (side_at d) other T) (untouched 24 T)
    unfolding shared_of
    by_standing b g =
        ap (λ (b : Bool). cond b (untouched 29 T) (cond (standing d mine other (rows_of T)) (filled_of s w n (side_at d) other T) (untouched 24 T))) h
        ∙ ap (λ (b : Bool). cond b (filled_of s w n (side_at d) other T) (untouched 24 T)) g

    pub shared_overlap : standing d mine other (rows_of T) ≡ false → SharedSaid s w n d mine other T (untouched 24 T).rows T
    shared_overlap g = let e = by_standing false g in (sym (ap (λ (o : Filled). o.rows) e), sym (ap (λ (o : Filled). o.tables) e))

    pub shared_loads : standing d mine other (rows_of T) ≡ true → {o : Held} → o ≡ other → {r : Rows} {T₁ : Lent} → LoadSaid s w n (side_at d) o T r T₁ → SharedSaid s w n d mine other T r T₁
    shared_loads g {o} i {r} {T₁} l₀ =
        let l : LoadSaid s w n (side_at d) other T r T₁ = subst (λ (o : Held). LoadSaid s w n (side_at d) o T r T₁) i l₀ in
        let e = by_standing true g in
        (l.0 ∙ sym (ap (λ (o : Filled). o.rows) e), l.1 ∙ sym (ap (λ (o : Filled). o.tables) e))

  -- as the code judges it
  pub judged-standing : {a b : Held} {c : Bool} → a ≡ mine → b ≡ other
      → c ≡ (leb d 1 && stands_at a b (length T.questions) (length T.patterns) (length T.trees) (length T.records) (length T.values)) → standing d mine other (rows_of T) ≡ c
  judged-standing {a} {b} i j e =
      sym (e ∙ ap₂ (λ (a b : Held). leb d 1 && stands_at a b (length T.questions) (length T.patterns) (length T.trees) (length T.records) (length T.values)) i j
      ∙ ap (λ (c : Bool). leb d 1 && c) (stands_at_lem mine other T.questions T.patterns T.trees T.records T.values))

-- ---- an unload

module _ (d : ℕ) (mine other : Held) (q a t c v : List ℕ) where
  pub unload_past : 1 < d → UnloadSaid d mine other q a t c v false q a t c v
  unfolding unloaded_of
  unload_past h =
      let e : standing d mine other (tables_of q a t c v) ≡ false = ap (λ (b : Bool). b && stands (tables_of q a t c v) mine other) (lt-leb d 1 h) in
      record {
        done = sym e;
        tables =
            subst (λ (b : Bool). Tabled (cond b (cleared (side_at d) mine (tables_of q a t c v)) (tables_of q a t c v)) q a t c v) (sym e)
            (record { questions = refl; patterns = refl; trees = refl; records = refl; values = refl });
      }

  pub unload_side : d ≤ 1 → {m o : Held} {r : Bool} {q₁ a₁ t₁ c₁ v₁ : List ℕ} → m ≡ mine → o ≡ other → Unloads (side_at d) m o q a t c v r q₁ a₁ t₁ c₁ v₁ → UnloadSaid d mine other q a t c v r q₁ a₁ t₁ c₁ v₁
  unfolding unloaded_of unload_of
  unload_side h {o = o} {r} {q₁} {a₁} {t₁} {c₁} {v₁} i j u₀ =
      let u : Unloads (side_at d) mine other q a t c v r q₁ a₁ t₁ c₁ v₁ =
      subst (λ (o : Held). Unloads (side_at d) mine o q a t c v r q₁ a₁ t₁ c₁ v₁) j (subst (λ (m : Held). Unloads (side_at d) m o q a t c v r q₁ a₁ t₁ c₁ v₁) i u₀) in
      let e : standing d mine other (tables_of q a t c v) ≡ stands (tables_of q a t c v) mine other = ap (λ (b : Bool). b && stands (tables_of q a t c v) mine other) (le-leb d 1 h) in
      record {
        done = u.done ∙ sym e;
        tables =
            subst (λ (x : Tables). Tabled x q₁ a₁ t₁ c₁ v₁)
            (same (stands (tables_of q a t c v) mine other) ∙ ap (λ (b : Bool). cond b (cleared (side_at d) mine (tables_of q a t c v)) (tables_of q a t c v)) (sym e)) u.tables;
      }
    where
      same : (b : Bool) → (cond b (record { answer = Done (λ k. 0); tables = cleared (side_at d) mine (tables_of q a t c v); held = λ k. 0 }) (as_it_was {R = Refusal} Overlap mine (tables_of q a t c v))).tables
          ≡ cond b (cleared (side_at d) mine (tables_of q a t c v)) (tables_of q a t c v)
      same true = refl
      same false = refl
