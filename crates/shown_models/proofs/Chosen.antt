-- The model that the code chooses of a file's record stands where the record says, or nowhere, as the record says: `Choice` is `Placed`, 12 or `Unplaced`.
use mathlib.Core.Path.{◌≡◌, refl, sym, ap, ◌∙◌, subst}
use mathlib.Core.Bool.{Bool, true, false, cond, ◌&&◌, true≢false}
use mathlib.Core.List.{List, [], ◌∷◌, map}
use mathlib.Core.Option.{Option, some}
use mathlib.Core.Option as option
use Prim.Native.Nat.{ℕ, zero, suc, ◌*◌, ◌≤◌, ◌<◌}
use native.Mathlib.Omega.{arith}
use borrow.Author.Tests.{ltb-true, ltb-false}
use lib.Dec.{ltb}
use lib.ListN.{length, get_or, take}
use Rattle.written.specs.Bytes as written
use Rattle.written.specs.HeaderText as says
use Rattle.written.specs.Record.{Says}
use Rattle.written.specs.Record as record_of
use Rattle.written.specs.Linking.{Nth, here, there}
use Rattle.laws.proofs.Nth.{nth_inside, nth_of}
use Rattle.error.specs.Numbers.{number_of, place_of, line_of}
use Rattle.error.specs.declared.Refusal.{Refusal}
use Rattle.error.specs.declared.Refusal.TheVariants as refusal
use Rattle.head_record.specs.Empty.{no_span, empty_stream, empty_position}
use Rattle.head_record.specs.Lists.{filled, span_of, range_of}
use Rattle.head_record.specs.Record.{there as present, range_or, global_record, stream_record, position_record, header_record}
use Rattle.text_parts.specs.declared.Span.{Span}
use Rattle.head_record.specs.declared.StreamData.{StreamData}
use Rattle.head_record.specs.declared.PositionData.{PositionData}
use Rattle.head_record_fits.specs.Fits.{record_fits}
use Rattle.head_record_fits.proofs.Said.{says_fits}
use Rattle.text_parts.specs.Parts.{bytes_of}
use Rattle.load_choose.specs.Chosen.{chosen, model_of, stream_model, gv_model}
use Rattle.load_choose.specs.Entries as code
use Rattle.load_choose.specs.Entries.{Numbered, no_number, no_position, no_stream, entries, Choice, unfit, duration, stream, gv}
use Rattle.load_choose.specs.declared.Which.{Which}
use Rattle.load_choose.specs.declared.Which.TheVariants.{Duration, Stream, Gv}
use Rattle.load_plan.specs.Plans.{data_of}
use Rattle.shown_words.proofs.Shaped.{record_shaped}
use Rattle.written.specs.Models as models
use Rattle.written.specs.Models.{Model, OfName, a_stream, a_gv, LastNamed, Unnamed, stream_name, position_name, EntriesOf, Placed, of_duration, of_stream, of_gv, NoGv, Unplaced}
use Rattle.load_choose.specs.declared.Chosen.{Chosen}
use Rattle.std.specs.Prelude.{Err, Result}

-- ---- lists in arrays: what counts is the list

module _ {A B : Type 0} (f : A → B) (d : B) where
  counted : (n : ℕ) (l : List A) → length l ≤ n → take (length l) (filled n d (map f l)) ≡ map f l
  unfolding filled
  counted n [] h = refl
  counted zero (a ∷ l) h = absurd (omega arith)
  counted (suc n) (a ∷ l) h = ap (f a ∷◌) (counted n l (omega arith))

  at_place : (n : ℕ) (l : List A) {i : ℕ} {a : A} (e : B) → length l ≤ n → Nth l i a → get_or (filled n d (map f l)) i e ≡ f a
  unfolding filled
  at_place zero (b ∷ l) e h here = absurd (omega arith)
  at_place zero (b ∷ l) e h (there x) = absurd (omega arith)
  at_place (suc n) (b ∷ l) e h here = refl
  at_place (suc n) (b ∷ l) e h (there x) = at_place n l e (omega arith) x
  at_place zero [] {i = i} {a = a} e h x4 = elim x4 [ ]
  at_place (suc n) [] {i = i} {a = a} e h x5 = elim x5 [ ]

  nth-map : (l : List A) {k : ℕ} {y : B} → Nth (map f l) k y → (a : A) × Nth l k a × (y ≡ f a)
  nth-map (a ∷ l) here = (a, here, refl)
  nth-map (a ∷ l) (there x) = let r = nth-map l x in (r.0, there r.1, r.2)
  nth-map [] {k = k} {y = y} x' = elim x' [ ]

  map-nth : {l : List A} {k : ℕ} {a : A} → Nth l k a → Nth (map f l) k (f a)
  map-nth here = here
  map-nth (there x) = there (map-nth x)

-- ---- names

module _ {A B : Type 0} (f : A → B) (code-name : B → Span) (name : A → written.Span) (same_name : (a : A) → code-name (f a) ≡ span_of (name a)) (s w : List ℕ) where
  bytes_are : (a : A) → bytes_of s (code-name (f a)) ≡ models.bytes_of s (name a)
  bytes_are a = ap (bytes_of s) (same_name a)

  pub named : {l : List A} {x : B} → code.LastNamed code-name s w (map f l) x → (a : A) × LastNamed name s w l a × (x ≡ f a)
  named {l} {x} r =
      let n = nth-map f (f_default l r) l r.last.stands in (
        n.0,
        record {
          row = r.row;
          last = record {
            at = n.0;
            stands = n.1;
            true_of = sym (bytes_are n.0) ∙ ap (λ (y : B). bytes_of s (code-name y)) (sym n.2) ∙ r.last.true_of;
            after = λ m a h t e. r.last.after m (f a) h (map-nth f (f_default l r) t) (bytes_are a ∙ e);
          };
          entry = refl;
        },
        sym r.entry ∙ n.2,
      )
    where
      f_default : (l : List A) → code.LastNamed code-name s w (map f l) x → B
      f_default l r = r.last.at

  pub unnamed : {l : List A} → code.Unnamed code-name s w (map f l) → Unnamed name s w l
  unnamed u k a t e = u k (f a) (map-nth f (f a) t) (bytes_are a ∙ e)

-- ---- the record in the code's words

pub record_arrays : (h : record_of.Header) → code.Arrays (header_record h)
record_arrays h = let f = record_shaped h in record { streams = f.streams; positions = f.positions }

pub data_is : (s : List ℕ) (h : record_of.Header) → data_of s (header_record h) ≡ models.data_of s h
unfolding header_record
data_is s h = refl

-- ---- the model asked for

abbrev pub which_of : Model → Which
which_of models.duration = Duration
which_of (models.stream i) = Stream i
which_of (models.gv i) = Gv i

-- where the record has a model, or why nowhere: 12 for its width, 13 to 15
pub data Placing (s : List ℕ) (h : record_of.Header) (m : Model) : Result Chosen Refusal → Type 0 where
  at : {t b : says.Range} {w : ℕ} → Placed s h m t b w → w ≤ 4096 → Placing s h m (chosen t.from t.to b.from b.to w)
  wide : {t b : says.Range} {w : ℕ} → Placed s h m t b w → 4096 < w → Placing s h m (Err refusal.Limit)
  nowhere : {z : Refusal} → Unplaced s h m (number_of z) → (place_of z ≡ 0) × (line_of z ≡ 0) → Placing s h m (Err z)

module _ (s : List ℕ) (h : record_of.Header) (r : Says s h) where
  of_width : {m : Model} {t b : says.Range} {w : ℕ} → Placed s h m t b w → Placing s h m (model_of (range_of t) (range_of b) w)
  unfolding model_of
  of_width {m} {t} {b} {w} p = go (ltb 4096 w) refl
    where
      go : (c : Bool) → ltb 4096 w ≡ c → Placing s h m (cond c (Err refusal.Limit) (chosen t.from t.to b.from b.to w))
      go true e = wide p (ltb-true 4096 w e)
      go false e = at p (ltb-false 4096 w e)

  pub positions : code.positions_of (header_record h) ≡ map position_record h.positions
  unfolding header_record
  positions = counted position_record empty_position 8 h.positions r.positions_fit.names

  pub streams : code.streams_of (header_record h) ≡ map stream_record h.streams
  unfolding header_record
  streams = counted stream_record empty_stream 8 h.streams r.streams_fit.names

  pub types : (header_record h).global.stream_type_count ≡ length h.global.stream_type
  unfolding header_record global_record
  types = refl

  pub position_name_lem : (p : record_of.Position) → (position_record p).name ≡ span_of p.name
  unfolding position_record
  position_name_lem p = refl

  pub stream_name_lem : (d : record_of.Stream) → (stream_record d).name ≡ span_of d.name
  unfolding stream_record
  stream_name_lem d = refl

  -- the i-th name
  pub type_is : (i : ℕ) {x : written.Span} → Nth h.global.stream_type i x → code.type_name s (header_record h) i ≡ models.bytes_of s x
  unfolding header_record global_record
  type_is i n = ap (bytes_of s) (at_place span_of no_span 8 h.global.stream_type no_span r.global_fits.names n)

  -- what holds of what the entries of the i-th name make, and of 13 and 14
  module _ (make : StreamData → PositionData → Result Chosen Refusal) (m : Model) (i : ℕ) (of : OfName m i) (P : Result Chosen Refusal → Type 0)
      (none : (z : Refusal) → Unplaced s h m (number_of z) → (place_of z ≡ 0) × (line_of z ≡ 0) → P (Err z))
      (made : (d : record_of.Stream) (p : record_of.Position) → EntriesOf s h i d p → P (make (stream_record d) (position_record p))) where
    pub numbered : {c : Result Chosen Refusal} → Numbered make s (header_record h) i c → P c
    numbered (no_number l) = none refusal.NoPosition (Unplaced.no_name of (λ x n. let k = nth_inside n in omega (arith, types))) (refl, refl)
    numbered (no_position l u) =
        let n = nth_of h.global.stream_type i (omega (arith, types)) in
        none refusal.NoPosition (Unplaced.no_position of n.1 (unnamed position_record (λ x. x.name) position_name position_name_lem s (models.bytes_of s n.0) (rw (positions, type_is i n.1) at u))) (refl, refl)
    numbered (no_stream {p = p} l q u) =
        let n = nth_of h.global.stream_type i (omega (arith, types)) in
        let a = named position_record (λ x. x.name) position_name position_name_lem s (models.bytes_of s n.0) (rw (positions, type_is i n.1) at q) in
        none refusal.NoStream (Unplaced.no_stream of n.1 a.1 (unnamed stream_record (λ x. x.name) stream_name stream_name_lem s (models.bytes_of s n.0) (rw (streams, type_is i n.1) at u))) (refl, refl)
    numbered (entries {p = x} l q t) =
        let n = nth_of h.global.stream_type i (omega (arith, types)) in
        let a = named position_record (λ x. x.name) position_name position_name_lem s (models.bytes_of s n.0) (rw (positions, type_is i n.1) at q) in
        let b = named stream_record (λ x. x.name) stream_name stream_name_lem s (models.bytes_of s n.0) (rw (streams, type_is i n.1) at t) in
        subst P (sym (ap (λ (d : StreamData). make d x) b.2 ∙ ap (make (stream_record b.0)) a.2))
        (made b.0 a.0 (record { name = n.0; named = n.1; in_positions = a.1; in_streams = b.1 }))

  a_gv_model : (i : ℕ) (d : record_of.Stream) (p : record_of.Position) → EntriesOf s h i d p → Placing s h (models.gv i) (gv_model (stream_record d) (position_record p))
  unfolding gv_model stream_record position_record
  a_gv_model i d p e = go d.use_gv refl p.gv_tree refl p.gv_pdf refl
    where
      go : (c : Bool) → d.use_gv ≡ c → (t : Option says.Range) → p.gv_tree ≡ t → (b : Option says.Range) → p.gv_pdf ≡ b
          → Placing s h (models.gv i) (cond (c && present t && present b) (model_of (range_or t) (range_or b) (2 * d.vector_length)) (Err refusal.UseGv))
      go false u t k b j = nowhere (Unplaced.no_gv e (NoGv.unused u)) (refl, refl)
      go true u option.none k b j = nowhere (Unplaced.no_gv e (NoGv.no_tree k)) (refl, refl)
      go true u (some t) k option.none j = nowhere (Unplaced.no_gv e (NoGv.no_block j)) (refl, refl)
      go true u (some t) k (some b) j = of_width (of_gv e u k j)

  a_stream_model : (i : ℕ) (d : record_of.Stream) (p : record_of.Position) → EntriesOf s h i d p → Placing s h (models.stream i) (stream_model (stream_record d) (position_record p))
  unfolding stream_model stream_record position_record
  a_stream_model i d p e = of_width (of_stream e)

  unfitting : {A : Type 0} → record_fits (length s) (header_record h) ≡ false → A
  unfitting e = absurd (true≢false (sym (says_fits s h r) ∙ e))

  pub choice-placed : (m : Model) {c : Result Chosen Refusal} → Choice s (header_record h) (which_of m) c → Placing s h m c
  unfolding header_record global_record
  choice-placed models.duration (unfit e) = unfitting e
  choice-placed models.duration (duration e) = of_width of_duration
  choice-placed (models.stream i) (unfit e) = unfitting e
  choice-placed (models.stream i) (stream e n) = numbered stream_model (models.stream i) i a_stream (Placing s h (models.stream i)) (λ z. nowhere {z = z}) (a_stream_model i) n
  choice-placed (models.gv i) (unfit e) = unfitting e
  choice-placed (models.gv i) (gv e n) = numbered gv_model (models.gv i) i a_gv (Placing s h (models.gv i)) (λ z. nowhere {z = z}) (a_gv_model i) n
