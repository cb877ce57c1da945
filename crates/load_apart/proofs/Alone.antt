-- A load beside the other task and the same load elsewhere: the rows are those of tables that are the task's alone, and the other is seen in
-- nothing but whether the rows fit.
use mathlib.Core.Path.{◌≡◌, refl, sym, ap, ◌∙◌, subst, subst₂, fun_ext}
use mathlib.Core.Bool.{Bool, true, false, cond, ◌&&◌}
use Prim.Native.Nat.{ℕ}
use native.Mathlib.Omega.{arith}
use Rattle.written.specs.Sharing.{Side, Tables, Held, nothing, seen, zeros, Exactly, Stand, holds, stands, room_beside}
use Rattle.load_apart.specs.Loads.{Answer, Done, Refused, NoRoom, Overlap, Holding, Linked, linked, unlinked, Filled, Model, Planned, refused, model, After, Fills, Every, none, one, answer_of, held_after, untouched, filled_in, beside_for, shared_of, alone_for}
use Rattle.load_apart.proofs.Tests.{both, is_stands, room_is, is_room, holds-nothing}
use Rattle.load_apart.proofs.Apart.{exactly_seen, stand_exactly, seen_nothing, Quiet, loud, Went, stays, judged, fills, went, filled_own}

module _ {R : Type 0} where
  -- ---- a task's own rows

  module _ (x : Side) (m : Model R) (f : Fills m) (other : Held) (t s : Tables) (g : Stand t m.need other) (e : Exactly m.need s) where
    filled_alike : m.fill (seen x m.need t) ≡ m.fill s
    filled_alike = f.whole (seen x m.need t) s (exactly_seen x m.need other t g) e

    alone_is : m.worked ≡ true → ◌≡◌ {A = After R} (alone_for (model m) s) (record { answer = answer_of m.need (m.fill s).ending; tables = (m.fill s).tables; held = held_after nothing (answer_of m.need (m.fill s).ending) })
    alone_is w =
        let b : (room_beside m.need nothing s && m.worked) ≡ true = rw (is_room m.need nothing s (stand_exactly m.need s e), w) in
        ap (λ (b : Bool). cond b (record { answer = answer_of m.need (m.fill s).ending; tables = (m.fill s).tables; held = held_after nothing (answer_of m.need (m.fill s).ending) }) (untouched NoRoom nothing s)) b

  -- what a load leaves in a task's own rows is what the same load leaves in tables of just these rows, with the same answer
  pub record AsAlone (x : Side) (m : Model R) (s : Tables) (r : After R) : Type 0 where
    pub answer : r.answer ≡ (alone_for (model m) s).answer
    pub held : r.held ≡ (alone_for (model m) s).held
    pub rows : seen x m.need r.tables ≡ (alone_for (model m) s).tables

  filled_alone : (x : Side) (m : Model R) (f : Fills m) (mine other : Held) (t s : Tables) → mine ≡ nothing → Stand t m.need other → Exactly m.need s → m.worked ≡ true
      → AsAlone x m s (filled_in x m mine t)
  unfolding filled_in
  filled_alone x m f mine other t s n g e w =
      let q = filled_alike x m f other t s g e in
      let a = alone_is x m f other t s g e w in
      record {
        answer = ap (λ (o : Filled R). answer_of m.need o.ending) q ∙ sym (ap (λ (r : After R). r.answer) a);
        held =
            ap (λ (h : Held). held_after h (answer_of m.need (m.fill (seen x m.need t)).ending)) n
            ∙ ap (λ (o : Filled R). held_after nothing (answer_of m.need o.ending)) q ∙ sym (ap (λ (r : After R). r.held) a);
        rows = filled_own x m f.keeps mine other t g ∙ ap (λ (o : Filled R). o.tables) q ∙ sym (ap (λ (r : After R). r.tables) a);
      }

  -- where no other number came first: 0 and 21 to 23
  pub data Reached : Answer R → Type 0 where
    done : {n : Held} → Reached (Done n)
    link : {z : R} → Reached (Refused z)

  quiet_not : {a : Answer R} → Quiet a → Reached a → ⊥
  quiet_not q (done {n}) = loud q n linked refl
  quiet_not q (link {z}) = loud q nothing (unlinked z) refl

  ending_of : (n : Held) (z : R) (o : Linked R) → answer_of n o ≡ Refused z → o ≡ unlinked z
  ending_of n z linked e = let u : ◌≡◌ {A = ℕ} 0 1 = cc in absurd (omega arith)
  ending_of n z (unlinked y) e = cc

  filled_zero : (x : Side) (m : Model R) (f : Fills m) (mine other : Held) (t : Tables) → mine ≡ nothing → Stand t m.need other → (z : R) → (filled_in x m mine t).answer ≡ Refused z
      → (seen x m.need (filled_in x m mine t).tables ≡ zeros m.need) × ((filled_in x m mine t).held ≡ nothing)
  unfolding filled_in
  filled_zero x m f mine other t n g z d = (
    filled_own x m f.keeps mine other t g
        ∙ fun_ext (f.zeroes (seen x m.need t) (exactly_seen x m.need other t g) z (ending_of m.need z (m.fill (seen x m.need t)).ending d)),
    ap (held_after mine) d ∙ n,
  )

  module _ (x : Side) (m : Model R) (f : Fills m) (mine other : Held) (t : Tables) where
    pub own_as_alone : (s : Tables) → Exactly m.need s → Reached (shared_of x (model m) mine other t).answer → AsAlone x m s (shared_of x (model m) mine other t)
    own_as_alone s e d = go (went Fills x mine other t (one f)) refl d
      where
        go : {p : Planned R} {r : After R} → Went Fills x mine other t p r → p ≡ model m → Reached r.answer → AsAlone x m s r
        go (stays q) i d = absurd (quiet_not q d)
        go judged i d = let u : ◌≡◌ {A = ℕ} 0 1 = cc in absurd (omega arith)
        go (fills {m = m₁} f₁ n g w) i d =
            let j : m₁ ≡ m = cc in
            subst (λ (m₂ : Model R). AsAlone x m₂ s (filled_in x m₁ mine t)) j
            (filled_alone x m₁ f₁ mine other t s n g (subst (λ (m₂ : Model R). Exactly m₂.need s) (sym j) e) w)

    -- 21 to 23: zeros in the rows needed, and the task holds nothing
    pub own_zero : (z : R) → (shared_of x (model m) mine other t).answer ≡ Refused z
        → (seen x m.need (shared_of x (model m) mine other t).tables ≡ zeros m.need) × ((shared_of x (model m) mine other t).held ≡ nothing)
    own_zero z d = go (went Fills x mine other t (one f)) refl d
      where
        go : {p : Planned R} {r : After R} → Went Fills x mine other t p r → p ≡ model m → r.answer ≡ Refused z
            → (seen x m.need r.tables ≡ zeros m.need) × (r.held ≡ nothing)
        go (stays q) i d = absurd (loud q nothing (unlinked z) (sym d))
        go judged i d = let u : ◌≡◌ {A = ℕ} 0 1 = cc in absurd (omega arith)
        go (fills {m = m₁} f₁ n g w) i d =
            let j : m₁ ≡ m = cc in
            subst (λ (m₂ : Model R). (seen x m₂.need (filled_in x m₁ mine t).tables ≡ zeros m₂.need) × ((filled_in x m₁ mine t).held ≡ nothing)) j
            (filled_zero x m₁ f₁ mine other t n g z d)

  -- ---- the same load beside others

  -- the rows fit in both, or in neither
  abbrev pub SameRoom : Planned R → Held → Tables → Held → Tables → Type 0
  SameRoom (refused z) other t other' t' = Unit {0}
  SameRoom (model m) other t other' t' = room_beside m.need other t ≡ room_beside m.need other' t'

  -- two results: the same answer and bounds, the same rows of the task
  pub record Agree (x y : Side) (r r' : After R) : Type 0 where
    pub answer : r.answer ≡ r'.answer
    pub held : r.held ≡ r'.held
    pub rows : seen x r.held r.tables ≡ seen y r'.held r'.tables

  module _ (x y : Side) (mine other other' : Held) (t t' : Tables) where
    filled_agree : (m : Model R) (f : Fills m) → mine ≡ nothing → Stand t m.need other → Stand t' m.need other' → Agree x y (filled_in x m mine t) (filled_in y m mine t')
    unfolding filled_in
    filled_agree m f n g g' =
        let q : m.fill (seen x m.need t) ≡ m.fill (seen y m.need t') =
        f.whole (seen x m.need t) (seen y m.need t') (exactly_seen x m.need other t g) (exactly_seen y m.need other' t' g') in
        let own : seen x m.need (filled_in x m mine t).tables ≡ seen y m.need (filled_in y m mine t').tables =
        filled_own x m f.keeps mine other t g ∙ ap (λ (o : Filled R). o.tables) q ∙ sym (filled_own y m f.keeps mine other' t' g') in
        record {
          answer = ap (λ (o : Filled R). answer_of m.need o.ending) q;
          held = ap (λ (o : Filled R). held_after mine (answer_of m.need o.ending)) q;
          rows =
              at (m.fill (seen x m.need t)).ending own
              ∙ ap (λ (o : Filled R). seen y (held_after mine (answer_of m.need o.ending)) (filled_in y m mine t').tables) q;
        }
      where
        at : (o : Linked R) → seen x m.need (filled_in x m mine t).tables ≡ seen y m.need (filled_in y m mine t').tables
            → seen x (held_after mine (answer_of m.need o)) (filled_in x m mine t).tables ≡ seen y (held_after mine (answer_of m.need o)) (filled_in y m mine t').tables
        at linked own = own
        at (unlinked z) own =
            ap (λ (h : Held). seen x h (filled_in x m mine t).tables) n ∙ seen_nothing x y (filled_in x m mine t).tables (filled_in y m mine t').tables
            ∙ sym (ap (λ (h : Held). seen y h (filled_in y m mine t').tables) n)

    pub beside_agree : {p : Planned R} → Every Fills p → mine ≡ nothing → Stand t mine other → Stand t' mine other' → SameRoom p other t other' t'
        → Agree x y (beside_for x p mine other t) (beside_for y p mine other' t')
    beside_agree none n g g' s = record { answer = refl; held = refl; rows = ap (λ (h : Held). seen x h t) n ∙ seen_nothing x y t t' ∙ sym (ap (λ (h : Held). seen y h t') n) }
    beside_agree (one {m} f) n g g' s =
        subst (λ (b : Bool). Agree x y (cond (room_beside m.need other t && m.worked) (filled_in x m mine t) (untouched NoRoom mine t)) (cond b (filled_in y m mine t') (untouched NoRoom mine t')))
        (ap (λ (b : Bool). b && m.worked) s) (go (room_beside m.need other t && m.worked) refl (sym (ap (λ (b : Bool). b && m.worked) s)))
      where
        go : (b : Bool) → (room_beside m.need other t && m.worked) ≡ b → (room_beside m.need other' t' && m.worked) ≡ b
            → Agree x y (cond b (filled_in x m mine t) (untouched NoRoom mine t)) (cond b (filled_in y m mine t') (untouched NoRoom mine t'))
        go true e e' =
            filled_agree m f n
            (room_is m.need other t (subst (λ (h : Held). Stand t h other) n g) (both _ m.worked e).0)
            (room_is m.need other' t' (subst (λ (h : Held). Stand t' h other') n g') (both _ m.worked e').0)
        go false e e' = record { answer = refl; held = refl; rows = ap (λ (h : Held). seen x h t) n ∙ seen_nothing x y t t' ∙ sym (ap (λ (h : Held). seen y h t') n) }

  module _ (x : Side) (p : Planned R) (mine other : Held) (t : Tables) where
    pub shared_held : holds mine ≡ true → shared_of x p mine other t ≡ untouched Holding mine t
    unfolding shared_of
    shared_held h = ap (λ (b : Bool). cond b (untouched Holding mine t) (cond (stands t mine other) (beside_for x p mine other t) (untouched Overlap mine t))) h

    pub shared_beside : holds mine ≡ false → Stand t mine other → shared_of x p mine other t ≡ beside_for x p mine other t
    unfolding shared_of
    shared_beside h g =
        ap (λ (b : Bool). cond b (untouched Holding mine t) (cond (stands t mine other) (beside_for x p mine other t) (untouched Overlap mine t))) h
        ∙ ap (λ (b : Bool). cond b (beside_for x p mine other t) (untouched Overlap mine t)) (is_stands t mine other g)

  -- Bounds that stand in two sets of tables, whatever they hold and however long they are, on the same side or not: if the rows fit in both or in neither,
  -- the answers of the same load and the bounds after it are the same; and if the task's rows were the same before, they are after it.
  module _ (p : Planned R) (f : Every Fills p) (x y : Side) (mine other other' : Held) (t t' : Tables) (g : Stand t mine other) (g' : Stand t' mine other') (s : SameRoom p other t other' t') where
    by_beside : holds mine ≡ false → Agree x y (shared_of x p mine other t) (shared_of y p mine other' t')
    by_beside h =
        subst₂ (Agree x y) (sym (shared_beside x p mine other t h g)) (sym (shared_beside y p mine other' t' h g'))
        (beside_agree x y mine other other' t t' f (holds-nothing mine h) g g' s)

    pub answer_apart : ((shared_of x p mine other t).answer ≡ (shared_of y p mine other' t').answer) × ((shared_of x p mine other t).held ≡ (shared_of y p mine other' t').held)
    answer_apart = go (holds mine) refl
      where
        go : (b : Bool) → holds mine ≡ b → ((shared_of x p mine other t).answer ≡ (shared_of y p mine other' t').answer) × ((shared_of x p mine other t).held ≡ (shared_of y p mine other' t').held)
        go true h = (
          ap (λ (r : After R). r.answer) (shared_held x p mine other t h) ∙ sym (ap (λ (r : After R). r.answer) (shared_held y p mine other' t' h)),
          ap (λ (r : After R). r.held) (shared_held x p mine other t h) ∙ sym (ap (λ (r : After R). r.held) (shared_held y p mine other' t' h)),
        )
        go false h = ((by_beside h).answer, (by_beside h).held)

    pub loads_agree : seen x mine t ≡ seen y mine t' → Agree x y (shared_of x p mine other t) (shared_of y p mine other' t')
    loads_agree e = go (holds mine) refl
      where
        go : (b : Bool) → holds mine ≡ b → Agree x y (shared_of x p mine other t) (shared_of y p mine other' t')
        go true h =
            subst₂ (Agree x y) (sym (shared_held x p mine other t h)) (sym (shared_held y p mine other' t' h)) (record { answer = refl; held = refl; rows = e })
        go false h = by_beside h
