-- `larsavim_house` judges a file as `written` has it, in tables with room for each of its models beside the other's: its four numbers are those of `JudgesFile`, and no others.
use mathlib.Core.Path.{◌≡◌, refl, sym, ap, ◌∙◌, subst}
use mathlib.Core.List.{List, [], ◌∷◌}
use mathlib.Core.Logic.{◌⊎◌, inl, inr}
use Prim.Native.Nat.{ℕ, ◌/◌, ◌≤◌, ◌<◌}
use native.Mathlib.Omega.{arith}
use lib.IntN.{pos}
use lib.ListN.{length, get_or, length-replicate}
use lib.Seq.{sets}
use Rattle.written.specs.Groups.{Pointwise}
use Rattle.written.specs.Record.{Header, Says}
use Rattle.written.specs.Said.{Layout}
use Rattle.written.specs.Models.{Model}
use Rattle.written.specs.Loading.{ModelSaid, ReadsModel, NoModel, Unread, Unloaded}
use Rattle.written.specs.House.{SaysModel, FirstRefused, Judges, JudgesFile}
use Rattle.written.specs.Sharing.{Side, Table, Tables, Held, nothing, placed, zeros}
use Rattle.written_house.proofs.HouseFile.{judges_file_one}
use Rattle.load_model.specs.Load.{Tables as Lent}
use Rattle.load_apart.proofs.Apart.{placed_long, exactly_zeros, stand_long}
use Rattle.load_shared.specs.Beside.{rows_of}
use Rattle.face_shared.specs.Answers.{held_at}
use Rattle.promises.specs.Loading.{widening, lines_of}
use Rattle.promises.specs.Sharing.{needed, model_rows, RoomBeside, BesideEnds, loaded, no_model, no_room, unlinked, Standing}
use Rattle.promises.specs.Housing.{emptied, Loads, loads, LoadRefused, InTurn, Stops, VoiceEnds, HouseEnds, AfterHouse}
use Rattle.promises.proofs.Turns.{rows_exact, rows_back}

-- ---- room depends on lengths alone

pub record AsLong (t u : Lent) : Type 0 where
  pub rows : (k : Table) → length (rows_of u k) ≡ length (rows_of t k)
  pub work : length u.work ≡ length t.work

as_long : {t u v : Lent} → AsLong t u → AsLong u v → AsLong t v
as_long a b = record { rows = λ k. b.rows k ∙ a.rows k; work = b.work ∙ a.work }

room_long : (y : ModelSaid) (other : Held) {t u : Lent} → AsLong t u → RoomBeside y other t → RoomBeside y other u
room_long y other {t} {u} a r =
    record { rows = stand_long (rows_of t) (rows_of u) (needed y) other a.rows r.rows; work = subst (λ (n : ℕ). lines_of y ≤ n / 6) (sym a.work) r.work }

emptied_long : (x : Side) (mine : Held) (t : Lent) → AsLong t (emptied x mine t)
emptied_long x mine t =
    record { rows = λ k. ap (λ (r : Tables). length (r k)) (rows_back (placed x mine (zeros mine) (rows_of t)) t.work) ∙ placed_long x mine (zeros mine) (rows_of t) (exactly_zeros mine) k; work = refl }

module _ {x : Side} {s : List ℕ} {h : Header} {other : Held} where
  loads_long : {m : Model} {t : Lent} {y : ModelSaid} {u : Lent} → Loads x s h other m t y u → AsLong t u
  loads_long {t = t} (loads {y = y} {l = l} {ts = ts} {rs = rs} a r w) =
      record {
        rows = λ k. ap (λ (r : Tables). length (r k)) (rows_back (placed x (needed y) (model_rows y l ts rs) (rows_of t)) t.work) ∙ placed_long x (needed y) (model_rows y l ts rs) (rows_of t) (rows_exact a w) k;
        work = length-replicate (length t.work) (pos 0);
      }

  -- what a load says, in tables with room
  loads_says : {m : Model} {t : Lent} {y : ModelSaid} {u : Lent} → Loads x s h other m t y u → SaysModel widening s h m y
  loads_says (loads {l = l} {ts = ts} {rs = rs} a r w) = record { layout = l; trees = ts; records = rs; reads = a; linked = w }

-- ---- each model of the file that is read fits beside the other's

abbrev pub Roomy : List ℕ → Header → Held → Lent → Type 0
Roomy s h other t = (m : Model) (y : ModelSaid) (l : Layout) → ReadsModel widening s h m y l → RoomBeside y other t

roomy_long : {s : List ℕ} {h : Header} {other : Held} {t u : Lent} → AsLong t u → Roomy s h other t → Roomy s h other u
roomy_long {other = other} a r m y l k = room_long y other a (r m y l k)

module _ {x : Side} {s : List ℕ} {h : Header} {other : Held} where
  refused_says : {m : Model} {t u : Lent} {n p k : ℕ} → Roomy s h other t → LoadRefused x s h other m t n p k u → NoModel widening s h m n p k
  refused_says {m} {t} {n = n} {p = p} {k = k} roomy (LoadRefused.refused a b) = go b refl refl refl
    where
      moved : {c q j : ℕ} → NoModel widening s h m c q j → c ≡ n → q ≡ p → j ≡ k → NoModel widening s h m n p k
      moved {c} {q} {j} z e f g = subst (λ (o : ℕ). NoModel widening s h m n p o) g (subst (λ (o : ℕ). NoModel widening s h m n o j) f (subst (λ (o : ℕ). NoModel widening s h m o q j) e z))

      go : {l : List ℕ} {u : Lent} → BesideEnds x s h m other t l u → get_or l 0 0 ≡ n → get_or l 1 0 ≡ p → get_or l 2 0 ≡ k → NoModel widening s h m n p k
      go (loaded r q w) e f g = absurd (a (sym e))
      go (no_model z b) e f g = moved z e f g
      go (no_room {y = y} {l = l} r q) e f g = absurd (q (roomy m y l r))
      go (unlinked r q w) e f g =
          moved (NoModel.placed r.placed (Unread.said r.narrow r.text_inside r.text_says (Unloaded.unlinked r.natural r.block_inside r.block_says w))) e f g

  turn_says : {ms : List Model} {mine mine₁ : Held} {t u : Lent} {ys : List ModelSaid} → InTurn x s h other ms mine t ys mine₁ u → Pointwise (SaysModel widening s h) ms ys
  turn_says InTurn.end = Pointwise.none
  turn_says (InTurn.next l r) = Pointwise.more (loads_says l) (turn_says r)

  stops_says : {ms : List Model} {mine : Held} {t u : Lent} {n p l k : ℕ} → Roomy s h other t → Stops x s h other ms mine t n p l k u
      → FirstRefused (SaysModel widening s h) (NoModel widening s h) ms n p l k
  stops_says roomy (Stops.here {mine = mine} {t = t} a) = FirstRefused.here (refused_says (roomy_long (emptied_long x mine t) roomy) a)
  stops_says roomy (Stops.later {mine = mine} {t = t} a r) = FirstRefused.later (loads_says a) (stops_says (roomy_long (as_long (emptied_long x mine t) (loads_long a)) roomy) r)

  voice_judges : {ms : List Model} {held l held₁ : List ℕ} {t u : Lent} → Roomy s h other t → VoiceEnds x s h other ms held t l held₁ u
      → Judges (SaysModel widening s h) (NoModel widening s h) s h ms (get_or l 0 0) (get_or l 1 0) (get_or l 2 0) (get_or l 3 0)
  voice_judges roomy (VoiceEnds.stopped k) = Judges.refused (stops_says roomy k)
  voice_judges roomy (VoiceEnds.breaks k v) = Judges.breaks (turn_says k) v
  voice_judges roomy (VoiceEnds.house k v) = Judges.house (turn_says k) v

-- ---- the call

-- room for the answer, the words and each model, of a task that holds nothing
pub record Lends (s w : List ℕ) (d : ℕ) (held other : List ℕ) (t : Lent) (out : List ℕ) : Type 0 where
  pub answer : (4 ≤ length out) × (5 ≤ length held) × (5 ≤ length other)
  pub free : held_at held ≡ nothing
  pub stand : Standing d (held_at held) (held_at other) (rows_of t)
  pub words : 647 ≤ length w
  pub roomy : (h : Header) → Says s h → Roomy s h (held_at other) t

module _ {s w : List ℕ} {d : ℕ} {held other : List ℕ} {t : Lent} {out : List ℕ} (lends : Lends s w d held other t out) where
  ends_judges : {l w₁ held₁ : List ℕ} {u : Lent} → HouseEnds s w d held other t l w₁ held₁ u → JudgesFile widening s (get_or l 0 0) (get_or l 1 0) (get_or l 2 0) (get_or l 3 0)
  ends_judges (HouseEnds.holding n) = absurd (n lends.free)
  ends_judges (HouseEnds.overlap f g) = absurd (g lends.stand)
  ends_judges (HouseEnds.unopened f g r) = JudgesFile.unopened r
  ends_judges (HouseEnds.few_words f g r l) = absurd (omega (arith, lends.words))
  ends_judges (HouseEnds.judged {h = h} f g o l m v) = JudgesFile.opened o m (voice_judges (lends.roomy h o) v)

  -- the file is judged so
  pub house_judges : {r : ℕ} {w₁ held₁ o : List ℕ} {u : Lent} → AfterHouse s w d held other t out r w₁ held₁ u o
      → (p : ℕ) × (l : ℕ) × (k : ℕ) × JudgesFile widening s r p l k × (o ≡ sets out 0 (r ∷ p ∷ l ∷ k ∷ []))
  house_judges (AfterHouse.short k) = absurd (go k)
    where
      go : (length out < 4) ⊎ ((length held < 5) ⊎ (length other < 5)) → ⊥
      go (inl x) = omega (arith, lends.answer.0)
      go (inr (inl x)) = omega (arith, lends.answer.1)
      go (inr (inr x)) = omega (arith, lends.answer.2)
  house_judges (AfterHouse.ended {l = l} a b c e) = (get_or l 1 0, get_or l 2 0, get_or l 3 0, ends_judges e, ap (sets out 0) (four e))
    where
      four : {l w₁ held₁ : List ℕ} {u : Lent} → HouseEnds s w d held other t l w₁ held₁ u → l ≡ get_or l 0 0 ∷ get_or l 1 0 ∷ get_or l 2 0 ∷ get_or l 3 0 ∷ []
      four (HouseEnds.holding n) = refl
      four (HouseEnds.overlap f g) = refl
      four (HouseEnds.unopened f g r) = refl
      four (HouseEnds.few_words f g r l) = refl
      four (HouseEnds.judged f g o l m (VoiceEnds.stopped k)) = refl
      four (HouseEnds.judged f g o l m (VoiceEnds.breaks k v)) = refl
      four (HouseEnds.judged f g o l m (VoiceEnds.house k v)) = refl

  -- and in no other way
  pub judges_house : {r : ℕ} {w₁ held₁ o : List ℕ} {u : Lent} → AfterHouse s w d held other t out r w₁ held₁ u o → {n p l k : ℕ} → JudgesFile widening s n p l k
      → (r ≡ n) × (o ≡ sets out 0 (n ∷ p ∷ l ∷ k ∷ []))
  judges_house a j =
      let b = house_judges a in
      let e = judges_file_one b.3 j in
      (e.0, b.4 ∙ (λ i. sets out 0 (e.0 i ∷ e.1 i ∷ e.2 i ∷ e.3 i ∷ [])))
