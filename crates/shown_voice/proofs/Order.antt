-- The models that the code goes through are the voice's, in order: `Models`.
use mathlib.Core.Path.{◌≡◌, refl, sym, ap, ◌∙◌, subst}
use mathlib.Core.Bool.{Bool, true, false, cond}
use mathlib.Core.List.{List, [], ◌∷◌, map}
use Prim.Native.Nat.{ℕ, zero, suc, ◌+◌, ◌*◌, ◌≤◌, ◌<◌}
use native.Mathlib.Omega.{arith}
use borrow.Author.Tests.{lt-ltb, le-ltb}
use lib.ListN.{length}
use Rattle.std.specs.declared.option.Option.{Option}
use Rattle.written.specs.Bytes as written
use Rattle.written.specs.Record as record_of
use Rattle.written.specs.Linking.{Nth, here, there}
use Rattle.written.specs.Models as models
use Rattle.written.specs.Models.{Model, LastNamed, Unnamed, stream_name, StreamModels, Models}
use Rattle.head_record.specs.Record.{stream_record, header_record}
use Rattle.head_record.specs.declared.StreamData.{StreamData}
use Rattle.head_record_fits.specs.Fits.{no_stream_data}
use Rattle.head_record_fits.proofs.Fits.{fits}
use Rattle.head_record_fits.proofs.Said.{says_fits}
use Rattle.load_choose.specs.Chosen.{stream_named, used_by, uses_gv}
use Rattle.load_choose.specs.Entries as code
use Rattle.load_choose.specs.Entries.{type_name}
use Rattle.load_choose.specs.declared.Which.{Which}
use Rattle.load_choose.specs.declared.Which.TheVariants.{Duration, Stream, Gv}
use Rattle.load_choose.proofs.Joined.{found_last, found_none}
use Rattle.load_voice.specs.Voice.{next_stream, next_model, models_after, models_of}
use Rattle.shown_models.proofs.Chosen.{record_arrays, which_of, named, unnamed, streams, types, stream_name_lem, type_is}
use Rattle.std.specs.Prelude.{None, Some}

-- the stream of a name uses a GV, or doesn't; a name without one uses none
data Uses (s : List ℕ) (h : record_of.Header) (x : written.Span) : Bool → Type 0 where
  by : {d : record_of.Stream} → LastNamed stream_name s (models.bytes_of s x) h.streams d → Uses s h x d.use_gv
  none : Unnamed stream_name s (models.bytes_of s x) h.streams → Uses s h x false

module _ (s : List ℕ) (h : record_of.Header) (r : record_of.Says s h) where
  use_so : (d : record_of.Stream) → (stream_record d).use_gv ≡ d.use_gv
  unfolding stream_record
  use_so d = refl

  uses_so : (i : ℕ) {x : written.Span} → Nth h.global.stream_type i x → Uses s h x (uses_gv s (header_record h) i)
  unfolding uses_gv
  uses_so i {x} n = go (stream_named s (header_record h).streams (header_record h).stream_count (type_name s (header_record h) i)) refl
    where
      ds : (header_record h).stream_count ≤ length (header_record h).streams
      ds = omega (arith, (fits (length s) (header_record h) (says_fits s h r)).streams, (record_arrays h).streams)

      go : (y : Option ℕ) → stream_named s (header_record h).streams (header_record h).stream_count (type_name s (header_record h) i) ≡ y → Uses s h x (used_by (header_record h).streams y)
      go (Some k) e =
          let f = found_last code.stream_name no_stream_data s (type_name s (header_record h) i) (header_record h).streams (header_record h).stream_count ds k e in
          let a = named stream_record code.stream_name stream_name (stream_name_lem s h r) s (models.bytes_of s x) (rw (streams s h r, type_is s h r i n) at f) in
          subst (Uses s h x) (sym (ap (λ (d : StreamData). d.use_gv) a.2 ∙ use_so a.0)) (by a.1)
      go None e =
          let f = found_none {A = StreamData} code.stream_name no_stream_data s (type_name s (header_record h) i) (header_record h).streams (header_record h).stream_count ds e in
          none (unnamed stream_record code.stream_name stream_name (stream_name_lem s h r) s (models.bytes_of s x) (rw (streams s h r, type_is s h r i n) at f))

  -- the models of the names xs, the first of which is the i-th
  record Behind (i : ℕ) (xs : List written.Span) : Type 0 where
    list : List Model
    in_order : StreamModels s h i xs list
    followed : (n : ℕ) → 2 * length xs ≤ n → models_after n s (header_record h) (next_stream (header_record h) i) ≡ map which_of list

  -- the names from the i-th on
  abbrev From : ℕ → List written.Span → Type 0
  From i xs = (k : ℕ) (x : written.Span) → Nth xs k x → Nth h.global.stream_type (i + k) x

  stops : (n : ℕ) → models_after n s (header_record h) None ≡ []
  unfolding models_after
  stops zero = refl
  stops (suc n) = refl

  at_end : (n i : ℕ) → length h.global.stream_type ≤ i → models_after n s (header_record h) (next_stream (header_record h) i) ≡ []
  unfolding next_stream
  at_end n i l = rw (le-ltb i (header_record h).global.stream_type_count (omega (arith, types s h r))) (stops n)

  a_stream : (i : ℕ) → i < length h.global.stream_type → next_stream (header_record h) i ≡ Some (Stream i)
  unfolding next_stream
  a_stream i l = rw (lt-ltb i (header_record h).global.stream_type_count (omega (arith, types s h r)))

  first : (n : ℕ) (w : Which) → models_after (suc n) s (header_record h) (Some w) ≡ w ∷ models_after n s (header_record h) (next_model s (header_record h) w)
  unfolding models_after
  first n w = refl

  -- behind stream i: its GV where it uses one, then what is behind them
  module _ (i : ℕ) (n : ℕ) (l : i < length h.global.stream_type) where
    abbrev rest : List Which
    rest = models_after n s (header_record h) (next_stream (header_record h) (i + 1))

    with_gv : uses_gv s (header_record h) i ≡ true → models_after (suc (suc n)) s (header_record h) (next_stream (header_record h) i) ≡ Stream i ∷ Gv i ∷ rest
    with_gv e =
        ap (models_after (suc (suc n)) s (header_record h)) (a_stream i l)
        ∙ first (suc n) (Stream i)
        ∙ ap (λ (b : Bool). Stream i ∷ models_after (suc n) s (header_record h) (cond b (Some (Gv i)) (next_stream (header_record h) (i + 1)))) e
        ∙ ap (Stream i ∷◌) (first n (Gv i))

  without_gv : (i n : ℕ) → i < length h.global.stream_type → uses_gv s (header_record h) i ≡ false → models_after (suc n) s (header_record h) (next_stream (header_record h) i) ≡ Stream i ∷ models_after n s (header_record h) (next_stream (header_record h) (i + 1))
  without_gv i n l e =
      ap (models_after (suc n) s (header_record h)) (a_stream i l)
      ∙ first n (Stream i)
      ∙ ap (λ (b : Bool). Stream i ∷ models_after n s (header_record h) (cond b (Some (Gv i)) (next_stream (header_record h) (i + 1)))) e

  behind : (i : ℕ) (xs : List written.Span) → i + length xs ≡ length h.global.stream_type → From i xs → Behind i xs
  behind i [] e f = record { list = []; in_order = StreamModels.end; followed = λ n l. at_end n i (omega arith) }
  behind i (x ∷ xs) e f =
      go (uses_gv s (header_record h) i) refl (uses_so i (subst (λ (k : ℕ). Nth h.global.stream_type k x) (let z : i + 0 ≡ i = omega arith in z) (f 0 x here)))
      (behind (suc i) xs (omega arith) (λ k y n. subst (λ (j : ℕ). Nth h.global.stream_type j y) (let z : i + suc k ≡ suc i + k = omega arith in z) (f (suc k) y (there n))))
    where
      inside : i < length h.global.stream_type
      inside = omega arith

      next_is : next_stream (header_record h) (i + 1) ≡ next_stream (header_record h) (suc i)
      next_is = ap (next_stream (header_record h)) (let z : i + 1 ≡ suc i = omega arith in z)

      -- at least one more model, or two
      alone : uses_gv s (header_record h) i ≡ false → (b : Behind (suc i) xs) → (n : ℕ) → 2 * length (x ∷ xs) ≤ n → models_after n s (header_record h) (next_stream (header_record h) i) ≡ map which_of (models.stream i ∷ b.list)
      alone u b zero l = absurd (omega arith)
      alone u b (suc n) l = without_gv i n inside u ∙ ap (Stream i ∷◌) (ap (models_after n s (header_record h)) next_is ∙ b.followed n (omega arith))

      both : uses_gv s (header_record h) i ≡ true → (b : Behind (suc i) xs) → (n : ℕ) → 2 * length (x ∷ xs) ≤ n → models_after n s (header_record h) (next_stream (header_record h) i) ≡ map which_of (models.stream i ∷ models.gv i ∷ b.list)
      both u b zero l = absurd (omega arith)
      both u b (suc zero) l = absurd (omega arith)
      both u b (suc (suc n)) l = with_gv i n inside u ∙ ap (λ (z : List Which). Stream i ∷ Gv i ∷ z) (ap (models_after n s (header_record h)) next_is ∙ b.followed n (omega arith))

      go : (c : Bool) → uses_gv s (header_record h) i ≡ c → Uses s h x c → Behind (suc i) xs → Behind i (x ∷ xs)
      go c u (by {d} t) b = pick d.use_gv refl
        where
          pick : (c : Bool) → d.use_gv ≡ c → Behind i (x ∷ xs)
          pick true k = record { list = models.stream i ∷ models.gv i ∷ b.list; in_order = StreamModels.both t k b.in_order; followed = both (u ∙ k) b }
          pick false k = record { list = models.stream i ∷ b.list; in_order = StreamModels.alone t k b.in_order; followed = alone (u ∙ k) b }
      go c u (none t) b = record { list = models.stream i ∷ b.list; in_order = StreamModels.unnamed t b.in_order; followed = alone u b }

  -- the models of the voice, as the code goes through them
  pub models_so : (ms : List Model) × Models s h ms × (models_of s (header_record h) ≡ map which_of ms)
  models_so =
      let b = behind 0 h.global.stream_type (omega arith) (λ k x n. subst (λ (j : ℕ). Nth h.global.stream_type j x) (let z : k ≡ 0 + k = omega arith in z) n) in (
        models.duration ∷ b.list,
        Models.voice b.in_order,
        first 16 Duration ∙ ap (Duration ∷◌) (b.followed 16 (omega (arith, r.global_fits.names))),
      )
