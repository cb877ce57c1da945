-- What `larsavim_house` promises, read number by number: one outcome; 0 exactly of a house voice, 30 to 36 exactly of a voice that breaks a rule, each where every model loads in turn,
-- and 12 to 23 of the first load that is refused; what stands in the tables after it (demand 1 for this call), and that the other task sees the same rows.
use mathlib.Core.Path.{◌≡◌, refl, sym, ap, subst, subst₂}
use mathlib.Core.List.{List, [], ◌∷◌}
use mathlib.Core.Logic.{◌⊎◌, inl, inr}
use Prim.Native.Nat.{ℕ, ◌≤◌, ◌<◌}
use native.Mathlib.Omega.{arith}
use lib.ListN.{length, get_or}
use lib.Seq.{sets}
use Rattle.written.specs.Record.{Header, Says}
use Rattle.written.specs.Models.{Model, Models}
use Rattle.written.specs.Loading.{ModelSaid}
use Rattle.written.specs.House.{HouseVoice, VoiceBreaks}
use Rattle.written.specs.Sharing.{Side, questions, trees, records, values, Tables, Held, nothing, Stand}
use Rattle.written.proofs.OneFile.{says_one}
use Rattle.written_apart.proofs.ApartFile.{refused_one as opening_one, says_never}
use Rattle.written_models.proofs.Openings.{refused_low}
use Rattle.written_models.proofs.OneModel.{models_one}
use Rattle.written_house.proofs.Housed.{voice_breaks_one, voice_never}
use Rattle.written_house.proofs.HouseExactly.{voice_breaks_number}
use Rattle.load_model.specs.Load.{Tables as Lent}
use Rattle.load_shared.specs.Beside.{rows_of}
use Rattle.walk.specs.Walking.{walk_of}
use Rattle.walk_leaves.specs.Checks.{leaves_fit}
use Rattle.face_shared.specs.Answers.{held_at, side_at}
use Rattle.promises.specs.Opening.{record_words}
use Rattle.promises.specs.Sharing.{Standing}
use Rattle.promises.specs.Housing.{five_of, InTurn, Stops, VoiceEnds, HouseEnds, AfterHouse}
use Rattle.promises.proofs.Apart.{five}
use Rattle.promises.proofs.Turns.{turns_one, stops_one, turns_never, stops_number, theirs, turns_apart, stops_apart, turns_stand, stops_stand}

-- ---- one outcome

module _ {x : Side} {s : List ℕ} {h : Header} {other : Held} {ms : List Model} {held : List ℕ} {t : Lent} where
  pub voice_ends_one : {l k a b : List ℕ} {u v : Lent} → VoiceEnds x s h other ms held t l a u → VoiceEnds x s h other ms held t k b v → (l ≡ k) × (a ≡ b) × (u ≡ v)
  voice_ends_one (VoiceEnds.stopped a) (VoiceEnds.stopped b) = let e = stops_one a b refl refl in (λ i. e.0 i ∷ e.1 i ∷ e.2 i ∷ e.3 i ∷ [], refl, e.4)
  voice_ends_one (VoiceEnds.stopped a) (VoiceEnds.breaks b v) = absurd (turns_never b a refl refl)
  voice_ends_one (VoiceEnds.stopped a) (VoiceEnds.house b v) = absurd (turns_never b a refl refl)
  voice_ends_one (VoiceEnds.breaks a w) (VoiceEnds.stopped b) = absurd (turns_never a b refl refl)
  voice_ends_one (VoiceEnds.breaks {n = n} {k = k} a w) (VoiceEnds.breaks b v) =
      let e = turns_one a b refl refl in
      let f = voice_breaks_one (subst (λ (ys : List ModelSaid). VoiceBreaks s h ms ys n k) e.0 w) v in
      (λ i. f.0 i ∷ 0 ∷ 0 ∷ f.1 i ∷ [], ap (λ (m : Held). sets held 0 (five_of m)) e.1, e.2)
  voice_ends_one (VoiceEnds.breaks {n = n} {k = k} a w) (VoiceEnds.house b v) =
      absurd (voice_never v (subst (λ (ys : List ModelSaid). VoiceBreaks s h ms ys n k) (turns_one a b refl refl).0 w))
  voice_ends_one (VoiceEnds.house a w) (VoiceEnds.stopped b) = absurd (turns_never a b refl refl)
  voice_ends_one (VoiceEnds.house a w) (VoiceEnds.breaks {n = n} {k = k} b v) =
      absurd (voice_never w (subst (λ (ys : List ModelSaid). VoiceBreaks s h ms ys n k) (turns_one b a refl refl).0 v))
  voice_ends_one (VoiceEnds.house a w) (VoiceEnds.house b v) = let e = turns_one a b refl refl in (refl, ap (λ (m : Held). sets held 0 (five_of m)) e.1, e.2)

-- slices that are long enough aren't too short
long : (out held other : List ℕ) → (length out < 4) ⊎ ((length held < 5) ⊎ (length other < 5)) → 4 ≤ length out → 5 ≤ length held → 5 ≤ length other → ⊥
long out held other (inl x) l m n = omega arith
long out held other (inr (inl x)) l m n = omega arith
long out held other (inr (inr x)) l m n = omega arith

module _ {s w : List ℕ} {d : ℕ} {held other : List ℕ} {t : Lent} where
  pub house_ends_one : {l k a b p q : List ℕ} {u v : Lent} → HouseEnds s w d held other t l a p u → HouseEnds s w d held other t k b q v → (l ≡ k) × (a ≡ b) × (p ≡ q) × (u ≡ v)
  house_ends_one (HouseEnds.holding n) (HouseEnds.holding m) = (refl, refl, refl, refl)
  house_ends_one (HouseEnds.holding n) (HouseEnds.overlap f g) = absurd (n f)
  house_ends_one (HouseEnds.holding n) (HouseEnds.unopened f g r) = absurd (n f)
  house_ends_one (HouseEnds.holding n) (HouseEnds.few_words f g r l) = absurd (n f)
  house_ends_one (HouseEnds.holding n) (HouseEnds.judged f g o l m v) = absurd (n f)
  house_ends_one (HouseEnds.overlap f g) (HouseEnds.holding n) = absurd (n f)
  house_ends_one (HouseEnds.overlap f g) (HouseEnds.overlap i j) = (refl, refl, refl, refl)
  house_ends_one (HouseEnds.overlap f g) (HouseEnds.unopened i j r) = absurd (g j)
  house_ends_one (HouseEnds.overlap f g) (HouseEnds.few_words i j r l) = absurd (g j)
  house_ends_one (HouseEnds.overlap f g) (HouseEnds.judged i j o l m v) = absurd (g j)
  house_ends_one (HouseEnds.unopened f g r) (HouseEnds.holding n) = absurd (n f)
  house_ends_one (HouseEnds.unopened f g r) (HouseEnds.overlap i j) = absurd (j g)
  house_ends_one (HouseEnds.unopened f g r) (HouseEnds.unopened i j z) = let e = opening_one r z in (λ i. e.0 i ∷ e.1 i ∷ 0 ∷ 0 ∷ [], refl, refl, refl)
  house_ends_one (HouseEnds.unopened f g r) (HouseEnds.few_words i j o l) = absurd (says_never o r)
  house_ends_one (HouseEnds.unopened f g r) (HouseEnds.judged i j o l m v) = absurd (says_never o r)
  house_ends_one (HouseEnds.few_words f g o l) (HouseEnds.holding n) = absurd (n f)
  house_ends_one (HouseEnds.few_words f g o l) (HouseEnds.overlap i j) = absurd (j g)
  house_ends_one (HouseEnds.few_words f g o l) (HouseEnds.unopened i j r) = absurd (says_never o r)
  house_ends_one (HouseEnds.few_words f g o l) (HouseEnds.few_words i j r k) = (refl, refl, refl, refl)
  house_ends_one (HouseEnds.few_words f g o l) (HouseEnds.judged i j r k m v) = absurd (omega arith)
  house_ends_one (HouseEnds.judged f g o l m v) (HouseEnds.holding n) = absurd (n f)
  house_ends_one (HouseEnds.judged f g o l m v) (HouseEnds.overlap i j) = absurd (j g)
  house_ends_one (HouseEnds.judged f g o l m v) (HouseEnds.unopened i j r) = absurd (says_never o r)
  house_ends_one (HouseEnds.judged f g o l m v) (HouseEnds.few_words i j r k) = absurd (omega arith)
  house_ends_one (HouseEnds.judged {ms = ms} {l = a} {held₁ = b} {u = u} f g o l m v) (HouseEnds.judged {h = h} i j r k n z) =
      let e = says_one o r in
      let q = models_one (subst (λ (y : Header). Models s y ms) e m) n in
      let c = voice_ends_one (subst₂ (λ (y : Header) (p : List Model). VoiceEnds (side_at d) s y (held_at other) p held t a b u) e q v) z in
      (c.0, ap (λ (y : Header). sets w 0 (record_words y)) e, c.1, c.2)

  module _ {out : List ℕ} where
    pub after_house_once : {r q : ℕ} {a b p c o i : List ℕ} {u v : Lent} → AfterHouse s w d held other t out r a p u o → AfterHouse s w d held other t out q b c v i
        → (r ≡ q) × (a ≡ b) × (p ≡ c) × (u ≡ v) × (o ≡ i)
    after_house_once (AfterHouse.short k) (AfterHouse.short j) = (refl, refl, refl, refl, refl)
    after_house_once (AfterHouse.short k) (AfterHouse.ended l m n e) = absurd (long out held other k l m n)
    after_house_once (AfterHouse.ended l m n e) (AfterHouse.short k) = absurd (long out held other k l m n)
    after_house_once (AfterHouse.ended l m n e) (AfterHouse.ended i j k f) =
        let c = house_ends_one e f in (ap (λ (l : List ℕ). get_or l 0 0) c.0, c.1, c.2, c.3, ap (sets out 0) c.0)

-- ---- number by number

-- a call that opens the file, of a task that holds nothing, with room for the answer
pub record Begins (s w : List ℕ) (d : ℕ) (held other : List ℕ) (t : Lent) (out : List ℕ) (h : Header) (ms : List Model) : Type 0 where
  pub room : (4 ≤ length out) × (5 ≤ length held) × (5 ≤ length other)
  pub free : held_at held ≡ nothing
  pub stand : Standing d (held_at held) (held_at other) (rows_of t)
  pub says : Says s h
  pub words : 647 ≤ length w
  pub models : Models s h ms

-- every model loads in turn, and the voice keeps all rules: the bounds and the tables after it
pub record HouseSaid (s w : List ℕ) (d : ℕ) (held other : List ℕ) (t : Lent) (out : List ℕ) : Type 0 where
  pub h : Header
  pub ms : List Model
  pub ys : List ModelSaid
  pub mine : Held
  pub after : Lent
  pub begins : Begins s w d held other t out h ms
  pub turn : InTurn (side_at d) s h (held_at other) ms nothing t ys mine after
  pub house : HouseVoice s h ys

-- every model loads in turn, and the voice breaks the rule n first, in model k
pub record BrokenSaid (s w : List ℕ) (d : ℕ) (held other : List ℕ) (t : Lent) (out : List ℕ) (n k : ℕ) : Type 0 where
  pub h : Header
  pub ms : List Model
  pub ys : List ModelSaid
  pub mine : Held
  pub after : Lent
  pub begins : Begins s w d held other t out h ms
  pub turn : InTurn (side_at d) s h (held_at other) ms nothing t ys mine after
  pub breaks : VoiceBreaks s h ms ys n k

-- the first load that is refused
pub record StoppedSaid (s w : List ℕ) (d : ℕ) (held other : List ℕ) (t : Lent) (out : List ℕ) (n p l k : ℕ) : Type 0 where
  pub h : Header
  pub ms : List Model
  pub after : Lent
  pub begins : Begins s w d held other t out h ms
  pub stops : Stops (side_at d) s h (held_at other) ms nothing t n p l k after

module _ {s w : List ℕ} {d : ℕ} {held other : List ℕ} {t : Lent} {out : List ℕ} where
  -- 0 exactly of a house voice
  pub house-zero : {r : ℕ} {w₁ held₁ o : List ℕ} {u : Lent} → AfterHouse s w d held other t out r w₁ held₁ u o → r ≡ 0 → HouseSaid s w d held other t out
  house-zero (AfterHouse.short k) e = absurd (omega arith)
  house-zero (AfterHouse.ended a b c x) e = go x e
    where
      go : {l w₁ held₁ : List ℕ} {u : Lent} → HouseEnds s w d held other t l w₁ held₁ u → get_or l 0 0 ≡ 0 → HouseSaid s w d held other t out
      go (HouseEnds.holding n) e = absurd (omega (arith, e))
      go (HouseEnds.overlap f g) e = absurd (omega (arith, e))
      go (HouseEnds.unopened f g r) e = absurd (omega (arith, (refused_low r).0, e))
      go (HouseEnds.few_words f g r l) e = absurd (omega (arith, e))
      go (HouseEnds.judged f g i l m (VoiceEnds.stopped k)) e = absurd (omega (arith, (stops_number k).0, e))
      go (HouseEnds.judged f g i l m (VoiceEnds.breaks k v)) e = absurd (omega (arith, (voice_breaks_number v).0, e))
      go (HouseEnds.judged f g i l m (VoiceEnds.house k v)) e =
          record { h = _; ms = _; ys = _; mine = _; after = _; begins = record { room = (a, b, c); free = f; stand = g; says = i; words = l; models = m }; turn = k; house = v }

  ended : {h : Header} {ms : List Model} → Begins s w d held other t out h ms → {l held₁ : List ℕ} {u : Lent} → VoiceEnds (side_at d) s h (held_at other) ms held t l held₁ u
      → AfterHouse s w d held other t out (get_or l 0 0) (sets w 0 (record_words h)) held₁ u (sets out 0 l)
  ended b v = AfterHouse.ended b.room.0 b.room.1 b.room.2 (HouseEnds.judged b.free b.stand b.says b.words b.models v)

  pub zero-house : {r : ℕ} {w₁ held₁ o : List ℕ} {u : Lent} → AfterHouse s w d held other t out r w₁ held₁ u o → (k : HouseSaid s w d held other t out)
      → (r ≡ 0) × (w₁ ≡ sets w 0 (record_words k.h)) × (held₁ ≡ sets held 0 (five_of k.mine)) × (u ≡ k.after) × (o ≡ sets out 0 (0 ∷ 0 ∷ 0 ∷ 0 ∷ []))
  zero-house a k = after_house_once a (ended k.begins (VoiceEnds.house k.turn k.house))

  -- 30 to 36 exactly of a voice that breaks this rule first, with the model's number
  pub house_broken : {r : ℕ} {w₁ held₁ o : List ℕ} {u : Lent} → AfterHouse s w d held other t out r w₁ held₁ u o → 30 ≤ r → (k : ℕ) × BrokenSaid s w d held other t out r k × (o ≡ sets out 0 (r ∷ 0 ∷ 0 ∷ k ∷ []))
  house_broken (AfterHouse.short k) e = absurd (omega arith)
  house_broken (AfterHouse.ended a b c x) e = go x e
    where
      go : {l w₁ held₁ : List ℕ} {u : Lent} → HouseEnds s w d held other t l w₁ held₁ u → 30 ≤ get_or l 0 0
          → (k : ℕ) × BrokenSaid s w d held other t out (get_or l 0 0) k × (sets out 0 l ≡ sets out 0 (get_or l 0 0 ∷ 0 ∷ 0 ∷ k ∷ []))
      go (HouseEnds.holding n) e = absurd (omega (arith, e))
      go (HouseEnds.overlap f g) e = absurd (omega (arith, e))
      go (HouseEnds.unopened f g r) e = absurd (omega (arith, (refused_low r).1, e))
      go (HouseEnds.few_words f g r l) e = absurd (omega (arith, e))
      go (HouseEnds.judged f g i l m (VoiceEnds.stopped k)) e = absurd (omega (arith, (stops_number k).1, e))
      go (HouseEnds.judged f g i l m (VoiceEnds.breaks {k = n} k v)) e =
          (n, record { h = _; ms = _; ys = _; mine = _; after = _; begins = record { room = (a, b, c); free = f; stand = g; says = i; words = l; models = m }; turn = k; breaks = v }, refl)
      go (HouseEnds.judged f g i l m (VoiceEnds.house k v)) e = absurd (omega (arith, e))

  pub broken_house : {r : ℕ} {w₁ held₁ o : List ℕ} {u : Lent} → AfterHouse s w d held other t out r w₁ held₁ u o → {n m : ℕ} (k : BrokenSaid s w d held other t out n m)
      → (r ≡ n) × (w₁ ≡ sets w 0 (record_words k.h)) × (held₁ ≡ sets held 0 (five_of k.mine)) × (u ≡ k.after) × (o ≡ sets out 0 (n ∷ 0 ∷ 0 ∷ m ∷ []))
  broken_house a k = after_house_once a (ended k.begins (VoiceEnds.breaks k.turn k.breaks))

  -- of a file that opens, any other number is that of the first load that is refused, with place, line and model
  pub house_load : {r : ℕ} {w₁ held₁ o : List ℕ} {u : Lent} → AfterHouse s w d held other t out r w₁ held₁ u o → {h : Header} {ms : List Model} → Begins s w d held other t out h ms → ¬ (r ≡ 0) → r < 30
      → (p : ℕ) × (l : ℕ) × (k : ℕ) × StoppedSaid s w d held other t out r p l k × (o ≡ sets out 0 (r ∷ p ∷ l ∷ k ∷ []))
  house_load (AfterHouse.short k) b e f = absurd (long out held other k b.room.0 b.room.1 b.room.2)
  house_load (AfterHouse.ended x y z v) b e f = go v e f
    where
      go : {l w₁ held₁ : List ℕ} {u : Lent} → HouseEnds s w d held other t l w₁ held₁ u → ¬ (get_or l 0 0 ≡ 0) → get_or l 0 0 < 30
          → (p : ℕ) × (i : ℕ) × (k : ℕ) × StoppedSaid s w d held other t out (get_or l 0 0) p i k × (sets out 0 l ≡ sets out 0 (get_or l 0 0 ∷ p ∷ i ∷ k ∷ []))
      go (HouseEnds.holding n) e f = absurd (n b.free)
      go (HouseEnds.overlap i j) e f = absurd (j b.stand)
      go (HouseEnds.unopened i j r) e f = absurd (says_never b.says r)
      go (HouseEnds.few_words i j r l) e f = absurd (omega (arith, b.words))
      go (HouseEnds.judged i j g l m (VoiceEnds.stopped {p = p} {l = n} {k = k} a)) e f =
          (p, n, k, record { h = _; ms = _; after = _; begins = record { room = (x, y, z); free = i; stand = j; says = g; words = l; models = m }; stops = a }, refl)
      go (HouseEnds.judged i j g l m (VoiceEnds.breaks k v)) e f = absurd (omega (arith, (voice_breaks_number v).0, f))
      go (HouseEnds.judged i j g l m (VoiceEnds.house k v)) e f = absurd (e refl)

  -- and conversely, with what that load leaves
  pub load_house : {r : ℕ} {w₁ held₁ o : List ℕ} {u : Lent} → AfterHouse s w d held other t out r w₁ held₁ u o → {n p l m : ℕ} (k : StoppedSaid s w d held other t out n p l m)
      → (r ≡ n) × (w₁ ≡ sets w 0 (record_words k.h)) × (held₁ ≡ held) × (u ≡ k.after) × (o ≡ sets out 0 (n ∷ p ∷ l ∷ m ∷ []))
  load_house a k = after_house_once a (ended k.begins (VoiceEnds.stopped k.stops))

  -- ---- the other task sees the same rows

  pub house_apart : {r : ℕ} {w₁ held₁ o : List ℕ} {u : Lent} → AfterHouse s w d held other t out r w₁ held₁ u o → theirs (side_at d) (held_at other) u ≡ theirs (side_at d) (held_at other) t
  house_apart (AfterHouse.short k) = refl
  house_apart (AfterHouse.ended a b c x) = go x
    where
      go : {l w₁ held₁ : List ℕ} {u : Lent} → HouseEnds s w d held other t l w₁ held₁ u → theirs (side_at d) (held_at other) u ≡ theirs (side_at d) (held_at other) t
      go (HouseEnds.holding n) = refl
      go (HouseEnds.overlap f g) = refl
      go (HouseEnds.unopened f g r) = refl
      go (HouseEnds.few_words f g r l) = refl
      go (HouseEnds.judged f g i l m v) = by v (subst (λ (n : Held). Stand (rows_of t) n (held_at other)) f g.1)
        where
          by : {h : Header} {ms : List Model} {l held₁ : List ℕ} {u : Lent} → VoiceEnds (side_at d) s h (held_at other) ms held t l held₁ u → Stand (rows_of t) nothing (held_at other)
              → theirs (side_at d) (held_at other) u ≡ theirs (side_at d) (held_at other) t
          by (VoiceEnds.stopped k) st = stops_apart k st
          by (VoiceEnds.breaks k v) st = turns_apart k st
          by (VoiceEnds.house k v) st = turns_apart k st

  -- so that its walks and its leaf check are the same
  pub house_walks : {r : ℕ} {w₁ held₁ o : List ℕ} {u : Lent} → AfterHouse s w d held other t out r w₁ held₁ u o → (tree : ℕ) (answers : List ℕ) (limit : ℕ)
      → walk_of (theirs (side_at d) (held_at other) u trees) (theirs (side_at d) (held_at other) u records) tree answers limit
      ≡ walk_of (theirs (side_at d) (held_at other) t trees) (theirs (side_at d) (held_at other) t records) tree answers limit
  house_walks a tree answers limit = ap (λ (v : Tables). walk_of (v trees) (v records) tree answers limit) (house_apart a)

  pub house_leaves : {r : ℕ} {w₁ held₁ o : List ℕ} {u : Lent} → AfterHouse s w d held other t out r w₁ held₁ u o → (wide : ℕ)
      → leaves_fit (theirs (side_at d) (held_at other) u questions) (theirs (side_at d) (held_at other) u trees) (theirs (side_at d) (held_at other) u records) (theirs (side_at d) (held_at other) u values) wide
      ≡ leaves_fit (theirs (side_at d) (held_at other) t questions) (theirs (side_at d) (held_at other) t trees) (theirs (side_at d) (held_at other) t records) (theirs (side_at d) (held_at other) t values) wide
  house_leaves a wide = ap (λ (v : Tables). leaves_fit (v questions) (v trees) (v records) (v values) wide) (house_apart a)

  -- bounds that stood still do
  pub house-stands : {r : ℕ} {w₁ held₁ o : List ℕ} {u : Lent} → AfterHouse s w d held other t out r w₁ held₁ u o → Stand (rows_of t) (held_at held) (held_at other) → Stand (rows_of u) (held_at held₁) (held_at other)
  house-stands (AfterHouse.short k) st = st
  house-stands (AfterHouse.ended a b c x) st = go x
    where
      go : {l w₁ held₁ : List ℕ} {u : Lent} → HouseEnds s w d held other t l w₁ held₁ u → Stand (rows_of u) (held_at held₁) (held_at other)
      go (HouseEnds.holding n) = st
      go (HouseEnds.overlap f g) = st
      go (HouseEnds.unopened f g r) = st
      go (HouseEnds.few_words f g r l) = st
      go (HouseEnds.judged f g i l m v) = by v (subst (λ (n : Held). Stand (rows_of t) n (held_at other)) f st)
        where
          by : {h : Header} {ms : List Model} {l held₁ : List ℕ} {u : Lent} → VoiceEnds (side_at d) s h (held_at other) ms held t l held₁ u → Stand (rows_of t) nothing (held_at other) → Stand (rows_of u) (held_at held₁) (held_at other)
          by {u = u} (VoiceEnds.stopped k) none = subst (λ (n : Held). Stand (rows_of u) n (held_at other)) (sym f) (stops_stand k none)
          by {u = u} (VoiceEnds.breaks {mine = mine} k v) none = subst (λ (n : Held). Stand (rows_of u) n (held_at other)) (sym (five held b mine)) (turns_stand k none)
          by {u = u} (VoiceEnds.house {mine = mine} k v) none = subst (λ (n : Held). Stand (rows_of u) n (held_at other)) (sym (five held b mine)) (turns_stand k none)
