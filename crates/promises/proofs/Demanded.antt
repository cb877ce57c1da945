-- Demand 1 as it reads for `larsavim_house` (02, Wish 11), by number: what the words, the task's bounds and the tables are after it. Refusals before the loads change nothing; a refused
-- load leaves what that load leaves, after what came before it was unloaded; 0 and 30 to 36 leave the last model.
use mathlib.Core.Path.{◌≡◌, refl, sym, ap, subst}
use mathlib.Core.List.{List, [], ◌∷◌, ◌++◌}
use mathlib.Core.Logic.{◌⊎◌, inl, inr}
use Prim.Native.Nat.{ℕ, ◌≤◌, ◌<◌}
use native.Mathlib.Omega.{arith}
use lib.ListN.{get_or}
use lib.Seq.{sets}
use Rattle.written.specs.Record.{Header, Says}
use Rattle.written.specs.Models.{Model, model_number, Models}
use Rattle.written.specs.Loading.{ModelSaid}
use Rattle.written.specs.Sharing.{Side, Held, nothing, cleared}
use Rattle.written_models.proofs.Openings.{refused_low}
use Rattle.written_models.proofs.Numbers.{linking_number, no_model_number}
use Rattle.written_house.proofs.HouseExactly.{voice_breaks_number}
use Rattle.load_model.specs.Load.{Tables as Lent}
use Rattle.load_shared.specs.Beside.{rows_of}
use Rattle.face_shared.specs.Answers.{held_at, side_at}
use Rattle.promises.specs.Opening.{record_words}
use Rattle.promises.specs.Sharing.{needed, zero_work, BesideEnds, loaded, no_model, no_room, unlinked}
use Rattle.promises.specs.Housing.{emptied, five_of, Loads, LoadRefused, InTurn, Stops, VoiceEnds, HouseEnds, AfterHouse}

module _ (x : Side) (s : List ℕ) (h : Header) (other : Held) where
  -- the models before one, in turn, and what they leave, unloaded
  pub record Before (ms : List Model) (mine : Held) (t : Lent) (m : Model) : Type 0 where
    pub first : List Model
    pub rest : List Model
    pub parted : ms ≡ first ++ (m ∷ rest)
    pub models : List ModelSaid
    pub held : Held
    pub tables : Lent
    pub turn : InTurn x s h other first mine t models held tables

  abbrev pub left : {ms : List Model} {mine : Held} {t : Lent} {m : Model} → Before ms mine t m → Lent
  left b = emptied x b.held b.tables

  -- the first of them, with nothing before it
  abbrev pub before_first : (m : Model) (ms : List Model) (mine : Held) (t : Lent) → Before (m ∷ ms) mine t m
  before_first m ms mine t = record { first = []; rest = ms; parted = refl; models = []; held = mine; tables = t; turn = InTurn.end }

  abbrev pub before_next : {m e : Model} {ms : List Model} {mine : Held} {t u : Lent} {y : ModelSaid} → Loads x s h other m (emptied x mine t) y u → Before ms (needed y) u e → Before (m ∷ ms) mine t e
  before_next {m} {y = y} l b =
      record { first = m ∷ b.first; rest = b.rest; parted = ap (λ (r : List Model). m ∷ r) b.parted; models = y ∷ b.models; held = b.held; tables = b.tables; turn = InTurn.next l b.turn }

  -- a load that is refused
  pub record Stopped (ms : List Model) (mine : Held) (t : Lent) (n p l k : ℕ) (u : Lent) : Type 0 where
    pub model : Model
    pub number : k ≡ model_number model
    pub before : Before ms mine t model
    pub refused : LoadRefused x s h other model (left before) n p l u

  pub stopped : {ms : List Model} {mine : Held} {t u : Lent} {n p l k : ℕ} → Stops x s h other ms mine t n p l k u → Stopped ms mine t n p l k u
  stopped (Stops.here {m = m} {ms = ms} {mine = mine} {t = t} a) = record { model = m; number = refl; before = before_first m ms mine t; refused = a }
  stopped (Stops.later a r) = let k = stopped r in record { model = k.model; number = k.number; before = before_next a k.before; refused = k.refused }

  -- the last model that loads
  pub record Last (ms : List Model) (mine : Held) (t : Lent) (mine₁ : Held) (u : Lent) : Type 0 where
    pub model : Model
    pub said : ModelSaid
    pub before : Before ms mine t model
    pub last : before.rest ≡ []
    pub loads : Loads x s h other model (left before) said u
    pub bounds : mine₁ ≡ needed said

  -- a model that loads, and those behind it, from the bounds that it leaves
  last_behind : {m : Model} {y : ModelSaid} {mine n : Held} {t u : Lent} {ms : List Model} {ys : List ModelSaid} {mine₁ : Held} {v : Lent} → Loads x s h other m (emptied x mine t) y u → n ≡ needed y
      → InTurn x s h other ms n u ys mine₁ v → Last (m ∷ ms) mine t mine₁ v
  last_behind {m = m} {y = y} {mine = mine} {t = t} l e InTurn.end = record { model = m; said = y; before = before_first m [] mine t; last = refl; loads = l; bounds = e }
  last_behind {m = m} {y = y} {mine = mine} {t = t} l e (InTurn.next {m = a} {ms = ms} {mine = b} {mine₁ = mine₁} {t = u} {u = w} {t₁ = v} {y = y'} {ys = ys} k r) =
      let z : Last (a ∷ ms) (needed y) u mine₁ v = subst (λ (q : Held). Last (a ∷ ms) q u mine₁ v) e (last_behind {m = a} {y = y'} {mine = b} {n = needed y'} {t = u} {u = w} {ms = ms} {ys = ys} {mine₁ = mine₁} {v = v} k refl r) in
      record { model = z.model; said = z.said; before = before_next l z.before; last = z.last; loads = z.loads; bounds = z.bounds }

  pub last_of : {m : Model} {ms : List Model} {mine mine₁ : Held} {t u : Lent} {ys : List ModelSaid} → InTurn x s h other (m ∷ ms) mine t ys mine₁ u → Last (m ∷ ms) mine t mine₁ u
  last_of (InTurn.next l r) = last_behind l refl r

-- a voice has a model
pub last_model : {x : Side} {s : List ℕ} {h : Header} {other : Held} {ms : List Model} {mine mine₁ : Held} {t u : Lent} {ys : List ModelSaid} → Models s h ms → InTurn x s h other ms mine t ys mine₁ u
    → Last x s h other ms mine t mine₁ u
last_model {x} {s} {h} {other} (Models.voice m) k = last_of x s h other k

-- a number, and words, bounds and tables after it
pub data HouseByNumber (s w : List ℕ) (d : ℕ) (held other : List ℕ) (t : Lent) : ℕ → List ℕ → List ℕ → Lent → Type 0 where
  -- 29, 24, opening's refusals, and 20 for slices that are too short
  as_before : {r : ℕ} → 0 < r → (r ≤ 12) ⊎ ((r ≡ 20) ⊎ ((r ≡ 24) ⊎ (r ≡ 29))) → HouseByNumber s w d held other t r w held t
  -- 12 to 20 of a load: what came before it is unloaded, and nothing else differs
  unloaded : {r : ℕ} {h : Header} {ms : List Model} {m : Model} → Says s h → Models s h ms → 12 ≤ r → r ≤ 20 → (b : Before (side_at d) s h (held_at other) ms nothing t m)
      → HouseByNumber s w d held other t r (sets w 0 (record_words h)) held (left (side_at d) s h (held_at other) b)
  -- 21 to 23 of a load: besides, the rows that it needed are zero, and the work
  zero : {r : ℕ} {h : Header} {ms : List Model} {m : Model} (y : ModelSaid) → Says s h → Models s h ms → 20 < r → r ≤ 23 → (b : Before (side_at d) s h (held_at other) ms nothing t m)
      → HouseByNumber s w d held other t r (sets w 0 (record_words h)) held
      (zero_work (cleared (side_at d) (needed y) (rows_of (left (side_at d) s h (held_at other) b))) (left (side_at d) s h (held_at other) b))
  -- 0 and 30 to 36: the tables hold the last model, and the bounds are its rows
  holds : {r : ℕ} {h : Header} {ms : List Model} {mine : Held} {u : Lent} → Says s h → Models s h ms → (r ≡ 0) ⊎ ((30 ≤ r) × (r ≤ 36)) → Last (side_at d) s h (held_at other) ms nothing t mine u
      → HouseByNumber s w d held other t r (sets w 0 (record_words h)) (sets held 0 (five_of mine)) u

module _ {s w : List ℕ} {d : ℕ} {held other : List ℕ} {t : Lent} where
  -- a load that is refused, by number
  of_load : {h : Header} {ms : List Model} {n p l k : ℕ} {u : Lent} → Says s h → Models s h ms → Stopped (side_at d) s h (held_at other) ms nothing t n p l k u
      → HouseByNumber s w d held other t n (sets w 0 (record_words h)) held u
  of_load {h} {n = n} o m z = by z.refused
    where
      by : {u : Lent} {p l : ℕ} → LoadRefused (side_at d) s h (held_at other) z.model (left (side_at d) s h (held_at other) z.before) n p l u
          → HouseByNumber s w d held other t n (sets w 0 (record_words h)) held u
      by (LoadRefused.refused a b) = go b refl
        where
          go : {l : List ℕ} {u : Lent} → BesideEnds (side_at d) s h z.model (held_at other) (left (side_at d) s h (held_at other) z.before) l u → get_or l 0 0 ≡ n
              → HouseByNumber s w d held other t n (sets w 0 (record_words h)) held u
          go (loaded c r k) e = absurd (a (sym e))
          go (no_model c r) e = HouseByNumber.unloaded {r = n} o m (omega (arith, (no_model_number c).0, e)) (omega (arith, r, e)) z.before
          go (no_room c r) e = HouseByNumber.unloaded {r = n} o m (omega (arith, e)) (omega (arith, e)) z.before
          go (unlinked {y = y} c r k) e = HouseByNumber.zero {r = n} y o m (omega (arith, (linking_number k).0, e)) (omega (arith, (linking_number k).1, e)) z.before

  of_voice : {h : Header} {ms : List Model} {l held₁ : List ℕ} {u : Lent} → Says s h → Models s h ms → VoiceEnds (side_at d) s h (held_at other) ms held t l held₁ u
      → HouseByNumber s w d held other t (get_or l 0 0) (sets w 0 (record_words h)) held₁ u
  of_voice {h} o m (VoiceEnds.stopped k) = of_load o m (stopped (side_at d) s h (held_at other) k)
  of_voice {h} o m (VoiceEnds.breaks {n = n} k v) = HouseByNumber.holds {r = n} o m (inr (voice_breaks_number v)) (last_model m k)
  of_voice {h} o m (VoiceEnds.house k v) = HouseByNumber.holds {r = 0} o m (inl refl) (last_model m k)

  pub house_by_number : {out o : List ℕ} {r : ℕ} {w₁ held₁ : List ℕ} {u : Lent} → AfterHouse s w d held other t out r w₁ held₁ u o → HouseByNumber s w d held other t r w₁ held₁ u
  house_by_number (AfterHouse.short k) = HouseByNumber.as_before {r = 20} (omega arith) (inr (inl refl))
  house_by_number (AfterHouse.ended a b c x) = go x
    where
      go : {l w₁ held₁ : List ℕ} {u : Lent} → HouseEnds s w d held other t l w₁ held₁ u → HouseByNumber s w d held other t (get_or l 0 0) w₁ held₁ u
      go (HouseEnds.holding n) = HouseByNumber.as_before {r = 29} (omega arith) (inr (inr (inr refl)))
      go (HouseEnds.overlap f g) = HouseByNumber.as_before {r = 24} (omega arith) (inr (inr (inl refl)))
      go (HouseEnds.unopened {n = n} f g r) = HouseByNumber.as_before {r = n} (omega (arith, (refused_low r).0)) (inl (refused_low r).1)
      go (HouseEnds.few_words f g r l) = HouseByNumber.as_before {r = 20} (omega arith) (inr (inl refl))
      go (HouseEnds.judged f g i l m v) = of_voice i m v
