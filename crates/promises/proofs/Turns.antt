-- Loads into a task's rows, one after the other: each has one outcome, and so have all in turn; none of them changes what the other task sees.
use mathlib.Core.Path.{◌≡◌, refl, sym, ap, ap₂, ◌∙◌, subst, fun_ext}
use mathlib.Core.List.{List, ◌∷◌}
use Prim.Native.Nat.{ℕ, ◌+◌, ◌*◌, ◌≤◌}
use native.Mathlib.Nat.{one-mul}
use native.Mathlib.Omega.{arith}
use lib.IntN.{ℤ}
use lib.ListN.{length, get_or}
use Rattle.written.specs.Record.{Header}
use Rattle.written.specs.Said.{Layout}
use Rattle.written.specs.Linking.{Row}
use Rattle.written.specs.Tables.{TreeRows, ModelRefused, question_rows, pattern_rows, folded}
use Rattle.written.specs.Models.{Model, data_of}
use Rattle.written.specs.Loading.{ModelSaid, ReadsModel}
use Rattle.written.specs.Sharing.{Side, opposite, Table, questions, patterns, trees, records, values, Tables, Held, nothing, seen, placed, zeros, cleared, Exactly, Stand}
use Rattle.written.proofs.Folded.{wide_text, wide_folded, length-folded}
use Rattle.written.proofs.ModelOnce.{model_rows_once, model_refused_once, model_never_both}
use Rattle.written_models.proofs.Numbers.{linking_number, no_model_number}
use Rattle.written_house.proofs.HouseFile.{no_model_one}
use Rattle.table_rows.proofs.Stand.{length-flat}
use Rattle.table_rows.proofs.Fours.{fours_model}
use Rattle.tree_survey.proofs.Rows.{rows_counted}
use Rattle.pdf_blocks.proofs.Joined.{length_rows}
use Rattle.load_model.specs.Load.{Tables as Lent}
use Rattle.load_apart.proofs.Apart.{placed_long, placed_own, placed_other, exactly_zeros, stand_long}
use Rattle.load_shared.specs.Beside.{rows_of, with_work}
use Rattle.shown_write.proofs.Loads.{fours_questions, twos_wide, question_count, pattern_count}
use Rattle.promises.specs.Loading.{widening, done_numbers, refused_numbers}
use Rattle.promises.specs.Sharing.{needed, model_rows, RoomBeside, zero_work, BesideEnds, loaded, no_model, no_room, unlinked}
use Rattle.promises.specs.Housing.{emptied, Loads, loads, LoadRefused, InTurn, Stops}
use Rattle.promises.proofs.Longer.{reads_one, reads_never}

-- ---- the rows of a model are as many as it needs

pub rows_exact : {s : List ℕ} {h : Header} {m : Model} {y : ModelSaid} {l : Layout} {ts rs : List Row} → ReadsModel widening s h m y l → TreeRows y.text.questions 0 y.text.trees ts rs
    → Exactly (needed y) (model_rows y l ts rs)
rows_exact {s} {h} {y = y} {l = l} {ts = ts} {rs = rs} a w = at
  where
    D : List ℕ
    D = data_of s h

    many : length ts ≡ length y.rows
    many = (rows_counted w).0 ∙ sym (ap length a.block_says.row ∙ length_rows y.width 0 a.block_says.counts ∙ a.block_says.per_tree)

    at : Exactly (needed y) (model_rows y l ts rs)
    at questions = length-flat (question_rows 0 l.questions) (fours_questions 0 l.questions) ∙ ap (λ (n : ℕ). 4 * n) (question_count D (a.text_at.to + 1) a.text_says)
    at patterns = length-flat (pattern_rows l.questions) (twos_wide l.questions) ∙ ap (λ (n : ℕ). 2 * n) (pattern_count D (a.text_at.to + 1) a.text_says)
    at trees = length-flat (folded ts y.rows) (wide_folded ts y.rows (wide_text w)) ∙ ap (λ (n : ℕ). 6 * n) (length-folded ts y.rows many ∙ (rows_counted w).0)
    at records = length-flat rs (fours_model w) ∙ ap (λ (n : ℕ). 4 * n) (rows_counted w).1
    at values = sym (one-mul (length y.values))

-- room for a model is room for it, however it was read
room_as : {s : List ℕ} {h : Header} {m : Model} {other : Held} {t : Lent} {y z : ModelSaid} {l k : Layout} → ReadsModel widening s h m y l → ReadsModel widening s h m z k → RoomBeside y other t → RoomBeside z other t
room_as {other = other} {t = t} a b r = subst (λ (o : ModelSaid). RoomBeside o other t) (reads_one a b).0 r

-- ---- one outcome

module _ {x : Side} {s : List ℕ} {h : Header} {other : Held} where
  module _ {m : Model} {t : Lent} where
    pub beside_once : {l k : List ℕ} {u v : Lent} → BesideEnds x s h m other t l u → BesideEnds x s h m other t k v → (l ≡ k) × (u ≡ v)
    beside_once (loaded {y = y} {ts = T} {rs = R} a r w) (loaded b q z) =
        let e = reads_one a b in
        let f = subst (λ (o : ModelSaid). TreeRows o.text.questions 0 o.text.trees T R) e.0 w in
        let g = model_rows_once f z refl in
        (ap₂ done_numbers e.0 g.1, λ i. zero_work (placed x (needed (e.0 i)) (model_rows (e.0 i) (e.1 i) (g.0 i) (g.1 i)) (rows_of t)) t)
    beside_once (loaded a r w) (no_model y b) = absurd (reads_never a y b)
    beside_once (loaded a r w) (no_room b n) = absurd (n (room_as a b r))
    beside_once (loaded {ts = T} {rs = R} a r w) (unlinked b q z) =
        absurd (model_never_both (subst (λ (o : ModelSaid). TreeRows o.text.questions 0 o.text.trees T R) (reads_one a b).0 w) z)
    beside_once (no_model y b) (loaded a r w) = absurd (reads_never a y b)
    beside_once (no_model y b) (no_model z d) = let e = no_model_one y z in (λ i. refused_numbers (e.0 i) (e.1 i) (e.2 i), refl)
    beside_once (no_model y b) (no_room a n) = absurd (reads_never a y b)
    beside_once (no_model y b) (unlinked a r w) = absurd (reads_never a y b)
    beside_once (no_room a n) (loaded b r w) = absurd (n (room_as b a r))
    beside_once (no_room a n) (no_model y b) = absurd (reads_never a y b)
    beside_once (no_room a n) (no_room b k) = (refl, refl)
    beside_once (no_room a n) (unlinked b r w) = absurd (n (room_as b a r))
    beside_once (unlinked a r w) (loaded {ts = T} {rs = R} b q z) =
        absurd (model_never_both (subst (λ (o : ModelSaid). TreeRows o.text.questions 0 o.text.trees T R) (reads_one b a).0 z) w)
    beside_once (unlinked a r w) (no_model y b) = absurd (reads_never a y b)
    beside_once (unlinked a r w) (no_room b n) = absurd (n (room_as a b r))
    beside_once (unlinked {n = c} {i = i} {k = k} a r w) (unlinked b q z) =
        let e = reads_one a b in
        let f = model_refused_once (subst (λ (o : ModelSaid). ModelRefused o.text.questions o.text.trees c i k) e.0 w) z in
        (λ j. refused_numbers (f.0 j) (f.1 j) (f.2 j), ap (λ (o : ModelSaid). zero_work (cleared x (needed o) (rows_of t)) t) e.0)

    pub loads_one : {y z : ModelSaid} {u v : Lent} → Loads x s h other m t y u → Loads x s h other m t z v → (y ≡ z) × (u ≡ v)
    loads_one (loads a r w) (loads b q z) = ((reads_one a b).0, (beside_once (loaded a r w) (loaded b q z)).1)

    pub refused_one : {n p k c q j : ℕ} {u v : Lent} → LoadRefused x s h other m t n p k u → LoadRefused x s h other m t c q j v → (n ≡ c) × (p ≡ q) × (k ≡ j) × (u ≡ v)
    refused_one (LoadRefused.refused a b) (LoadRefused.refused c d) =
        let e = beside_once b d in
        (ap (λ (l : List ℕ). get_or l 0 0) e.0, ap (λ (l : List ℕ). get_or l 1 0) e.0, ap (λ (l : List ℕ). get_or l 2 0) e.0, e.1)

    pub loads_never : {y : ModelSaid} {n p k : ℕ} {u v : Lent} → Loads x s h other m t y u → LoadRefused x s h other m t n p k v → ⊥
    loads_never (loads a r w) (LoadRefused.refused n b) = n (sym (ap (λ (l : List ℕ). get_or l 0 0) (beside_once (loaded a r w) b).0))

    -- a load's numbers
    pub refused_number : {n p k : ℕ} {u : Lent} → LoadRefused x s h other m t n p k u → (12 ≤ n) × (n ≤ 23)
    refused_number {n} (LoadRefused.refused a b) = go b refl
      where
        go : {l : List ℕ} {u : Lent} → BesideEnds x s h m other t l u → get_or l 0 0 ≡ n → (12 ≤ n) × (n ≤ 23)
        go (loaded r q w) e = absurd (a (sym e))
        go (no_model y b) e = let k = no_model_number y in (omega (arith, k.0, e), omega (arith, k.1, e))
        go (no_room r q) e = (omega (arith, e), omega (arith, e))
        go (unlinked r q y) e = let k = linking_number y in (omega (arith, k.0, e), omega (arith, k.1, e))

  -- ---- and of all in turn

  -- of what the task holds and the tables before it, told by equations
  before_loads : {m : Model} {t t' : Lent} {y : ModelSaid} {u : Lent} → t ≡ t' → Loads x s h other m t y u → Loads x s h other m t' y u
  before_loads {m} {y = y} {u = u} e a = subst (λ (t : Lent). Loads x s h other m t y u) e a

  pub turns_one : {ms : List Model} {mine mine' a b : Held} {t t' u v : Lent} {ys zs : List ModelSaid} → InTurn x s h other ms mine t ys a u → InTurn x s h other ms mine' t' zs b v
      → mine ≡ mine' → t ≡ t' → (ys ≡ zs) × (a ≡ b) × (u ≡ v)
  turns_one InTurn.end InTurn.end e f = (refl, e, f)
  turns_one (InTurn.next l i) (InTurn.next k j) e f =
      let z = loads_one (before_loads (ap₂ (emptied x) e f) l) k in
      let r = turns_one i j (ap needed z.0) z.1 in
      (ap₂ ◌∷◌ z.0 r.0, r.1, r.2)

  pub stops_one : {ms : List Model} {mine mine' : Held} {t t' u v : Lent} {n p l k c q j i : ℕ} → Stops x s h other ms mine t n p l k u → Stops x s h other ms mine' t' c q j i v
      → mine ≡ mine' → t ≡ t' → (n ≡ c) × (p ≡ q) × (l ≡ j) × (k ≡ i) × (u ≡ v)
  stops_one (Stops.here {m = m} {u = u} {n = n} {p = p} {l = l} a) (Stops.here b) e f =
      let z = refused_one (subst (λ (t : Lent). LoadRefused x s h other m t n p l u) (ap₂ (emptied x) e f) a) b in (z.0, z.1, z.2, refl, z.3)
  stops_one (Stops.here {m = m} {u = u} {n = n} {p = p} {l = l} a) (Stops.later b r) e f =
      absurd (loads_never b (subst (λ (t : Lent). LoadRefused x s h other m t n p l u) (ap₂ (emptied x) e f) a))
  stops_one (Stops.later a r) (Stops.here b) e f = absurd (loads_never (before_loads (ap₂ (emptied x) e f) a) b)
  stops_one (Stops.later a r) (Stops.later b w) e f = let z = loads_one (before_loads (ap₂ (emptied x) e f) a) b in stops_one r w (ap needed z.0) z.1

  pub turns_never : {ms : List Model} {mine mine' a : Held} {t t' u v : Lent} {ys : List ModelSaid} {n p l k : ℕ} → InTurn x s h other ms mine t ys a u → Stops x s h other ms mine' t' n p l k v
      → mine ≡ mine' → t ≡ t' → ⊥
  turns_never (InTurn.next l i) (Stops.here b) e f = loads_never (before_loads (ap₂ (emptied x) e f) l) b
  turns_never (InTurn.next l i) (Stops.later b r) e f = let z = loads_one (before_loads (ap₂ (emptied x) e f) l) b in turns_never i r (ap needed z.0) z.1
  turns_never {v = v} {n = n} {p = p} {l = l} {k = k} (Rattle.promises.specs.Housing.end {mine = mine} {t = t}) x23 e f = elim x23 [ ]

  pub stops_number : {ms : List Model} {mine : Held} {t u : Lent} {n p l k : ℕ} → Stops x s h other ms mine t n p l k u → (12 ≤ n) × (n ≤ 23)
  stops_number (Stops.here a) = refused_number a
  stops_number (Stops.later a r) = stops_number r

-- ---- bounds stand, and the other task sees the same rows

-- the five tables of what is lent
pub rows_back : (t : Tables) (w : List ℤ) → rows_of (with_work t w) ≡ t
rows_back t w = fun_ext at
  where
    at : (k : Table) → rows_of (with_work t w) k ≡ t k
    at questions = refl
    at patterns = refl
    at trees = refl
    at records = refl
    at values = refl

-- rows of the lengths asked for, in tables where they stand beside the other's
module _ (x : Side) (other n : Held) (rows t : Tables) (w : List ℤ) (e : Exactly n rows) where
  put_stand : (b : Held) → Stand t b other → Stand (rows_of (with_work (placed x n rows t) w)) b other
  put_stand b s =
      subst (λ (u : Tables). Stand u b other) (sym (rows_back (placed x n rows t) w)) (stand_long t (placed x n rows t) b other (placed_long x n rows t e) s)

  put_apart : Stand t n other → seen (opposite x) other (rows_of (with_work (placed x n rows t) w)) ≡ seen (opposite x) other t
  put_apart s = ap (seen (opposite x) other) (rows_back (placed x n rows t) w) ∙ placed_other x n rows t e other s

-- bounds stand beside those of a task that holds nothing
alone : (t : Lent) (mine other : Held) → Stand (rows_of t) mine other → Stand (rows_of t) nothing other
alone t mine other s k = let a = s k in omega arith

-- what the other sees of tables
abbrev pub theirs : Side → Held → Lent → Tables
theirs x other t = seen (opposite x) other (rows_of t)

emptied_apart : (x : Side) (other mine : Held) (t : Lent) → Stand (rows_of t) mine other → theirs x other (emptied x mine t) ≡ theirs x other t
emptied_apart x other mine t s = put_apart x other mine (zeros mine) (rows_of t) t.work (exactly_zeros mine) s

-- an unload leaves zeros in them
pub emptied-seen : (x : Side) (other mine : Held) (t : Lent) → Stand (rows_of t) mine other → seen x mine (rows_of (emptied x mine t)) ≡ zeros mine
emptied-seen x other mine t s = ap (seen x mine) (rows_back (cleared x mine (rows_of t)) t.work) ∙ placed_own x mine (zeros mine) (rows_of t) (exactly_zeros mine) other s

module _ {x : Side} {s : List ℕ} {h : Header} {other : Held} where
  -- a load that is done leaves the model in the task's rows
  pub loads_seen : {m : Model} {t : Lent} {y : ModelSaid} {u : Lent} → Loads x s h other m t y u
      → (l : Layout) × (ts : List Row) × (rs : List Row) × ReadsModel widening s h m y l × TreeRows y.text.questions 0 y.text.trees ts rs × (seen x (needed y) (rows_of u) ≡ model_rows y l ts rs)
  loads_seen {t = t} (loads {y = y} {l = l} {ts = ts} {rs = rs} a r w) =
      (l, ts, rs, a, w, ap (seen x (needed y)) (rows_back (placed x (needed y) (model_rows y l ts rs) (rows_of t)) t.work) ∙ placed_own x (needed y) (model_rows y l ts rs) (rows_of t) (rows_exact a w) other r.rows)

  pub loads_stand : {m : Model} {t : Lent} {y : ModelSaid} {u : Lent} → Loads x s h other m t y u → Stand (rows_of u) (needed y) other
  loads_stand {t = t} (loads {y = y} {l = l} {ts = ts} {rs = rs} a r w) = put_stand x other (needed y) (model_rows y l ts rs) (rows_of t) t.work (rows_exact a w) (needed y) r.rows

  loads_apart : {m : Model} {t : Lent} {y : ModelSaid} {u : Lent} → Loads x s h other m t y u → theirs x other u ≡ theirs x other t
  loads_apart {t = t} (loads {y = y} {l = l} {ts = ts} {rs = rs} a r w) = put_apart x other (needed y) (model_rows y l ts rs) (rows_of t) t.work (rows_exact a w) r.rows

  refused_apart : {m : Model} {t u : Lent} {n p k : ℕ} → LoadRefused x s h other m t n p k u → theirs x other u ≡ theirs x other t
  refused_apart {m} {t} (LoadRefused.refused a b) = go b
    where
      go : {l : List ℕ} {u : Lent} → BesideEnds x s h m other t l u → theirs x other u ≡ theirs x other t
      go (loaded a r w) = loads_apart (loads a r w)
      go (no_model y b) = refl
      go (no_room a n) = refl
      go (unlinked {y = y} a r w) = put_apart x other (needed y) (zeros (needed y)) (rows_of t) t.work (exactly_zeros (needed y)) r.rows

  -- all in turn
  pub turns_stand : {ms : List Model} {mine mine₁ : Held} {t u : Lent} {ys : List ModelSaid} → InTurn x s h other ms mine t ys mine₁ u → Stand (rows_of t) mine other → Stand (rows_of u) mine₁ other
  turns_stand InTurn.end s = s
  turns_stand (InTurn.next l r) s = turns_stand r (loads_stand l)

  pub turns_apart : {ms : List Model} {mine mine₁ : Held} {t u : Lent} {ys : List ModelSaid} → InTurn x s h other ms mine t ys mine₁ u → Stand (rows_of t) mine other → theirs x other u ≡ theirs x other t
  turns_apart InTurn.end s = refl
  turns_apart (InTurn.next {mine = mine} {t = t} l r) s = turns_apart r (loads_stand l) ∙ loads_apart l ∙ emptied_apart x other mine t s

  pub stops_apart : {ms : List Model} {mine : Held} {t u : Lent} {n p l k : ℕ} → Stops x s h other ms mine t n p l k u → Stand (rows_of t) mine other → theirs x other u ≡ theirs x other t
  stops_apart (Stops.here {mine = mine} {t = t} a) s = refused_apart a ∙ emptied_apart x other mine t s
  stops_apart (Stops.later {mine = mine} {t = t} l r) s = stops_apart r (loads_stand l) ∙ loads_apart l ∙ emptied_apart x other mine t s

  -- after a refused load the task holds nothing
  pub refused_stand : {m : Model} {t u : Lent} {n p k : ℕ} → LoadRefused x s h other m t n p k u → Stand (rows_of t) nothing other → Stand (rows_of u) nothing other
  refused_stand {m} {t} (LoadRefused.refused a b) st = go b
    where
      go : {l : List ℕ} {u : Lent} → BesideEnds x s h m other t l u → Stand (rows_of u) nothing other
      go (loaded {y = y} {l = l} {ts = ts} {rs = rs} c r w) = put_stand x other (needed y) (model_rows y l ts rs) (rows_of t) t.work (rows_exact c w) nothing st
      go (no_model y c) = st
      go (no_room c r) = st
      go (unlinked {y = y} c r w) = put_stand x other (needed y) (zeros (needed y)) (rows_of t) t.work (exactly_zeros (needed y)) nothing st

  pub stops_stand : {ms : List Model} {mine : Held} {t u : Lent} {n p l k : ℕ} → Stops x s h other ms mine t n p l k u → Stand (rows_of t) mine other → Stand (rows_of u) nothing other
  stops_stand (Stops.here {mine = mine} {t = t} a) st = refused_stand a (put_stand x other mine (zeros mine) (rows_of t) t.work (exactly_zeros mine) nothing (alone t mine other st))
  stops_stand (Stops.later l r) st = stops_stand r (loads_stand l)
