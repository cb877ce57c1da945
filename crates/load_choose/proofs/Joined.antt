-- What is found is the last entry of its name, what is answered of a stream's number is what the entries of its name make, and the model chosen is the one
-- choice that there is.
use mathlib.Core.Path.{◌≡◌, refl, sym, ap, ap₂, ◌∙◌, subst}
use mathlib.Core.Bool.{Bool, true, false, cond, true≢false}
use mathlib.Core.List.{List}
use mathlib.Core.Logic.{◌⊎◌, inl, inr}
use Prim.Native.Nat.{ℕ, ◌≤◌, ◌<◌}
use native.Mathlib.Omega.{arith}
use lib.ListN.{length, get_or, take}
use lib.Seq.{length-take-le, get_or-take}
use Rattle.std.specs.declared.option.Option.{Option}
use Rattle.written.specs.Bytes.{same}
use Rattle.written.specs.Linking.{Nth}
use Rattle.written.proofs.Walk.{nth_once, last_once}
use Rattle.laws.proofs.Nth.{nth_inside}
use Rattle.table_rows.proofs.Stand.{nth_at}
use Rattle.text_parts.specs.declared.Span.{Span}
use Rattle.head_record.specs.declared.StreamData.{StreamData}
use Rattle.head_record.specs.declared.PositionData.{PositionData}
use Rattle.head_record.specs.declared.Header.{Header}
use Rattle.head_record_fits.specs.Fits.{no_stream_data, no_position_data, record_fits}
use Rattle.head_record_fits.proofs.Fits.{fits}
use Rattle.text_parts.specs.Parts.{bytes_of}
use Rattle.link_search.specs.Found.{last_below}
use Rattle.link_search.proofs.Ids.{same_true, true_same}
use Rattle.link_search.proofs.Last.{last_found, last_missing}
use Rattle.link_sort.proofs.Order.{le_or_lt}
use Rattle.load_choose.specs.Chosen.{position_named, stream_named, stream_model, gv_model, numbered, asked, chosen_of}
use Rattle.load_choose.specs.Entries.{LastNamed, Unnamed, position_name, stream_name, type_name, Numbered, no_number, no_position, no_stream, entries, Arrays, Choice, unfit, duration, stream, gv}
use Rattle.error.specs.declared.Refusal.TheVariants as refusal
use Rattle.load_choose.specs.declared.Which.{Which}
use Rattle.load_choose.specs.declared.Which.TheVariants.{Duration, Stream, Gv}
use Rattle.load_choose.proofs.Named as named
use Rattle.load_choose.specs.declared.Chosen.{Chosen}
use Rattle.error.specs.declared.Refusal.{Refusal}
use Rattle.std.specs.Prelude.{Err, Result, Some, None}

-- ---- a search among the first n of l, where d stands for what l lacks

module _ {A : Type 0} (name : A → Span) (d : A) (s w : List ℕ) (l : List A) (n : ℕ) (inside : n ≤ length l) where
  stands : (k : ℕ) → k < n → Nth (take n l) k (get_or l k d)
  stands k h = subst (λ (x : A). Nth (take n l) k x) (get_or-take n l k d h) (nth_at (take n l) k d (omega (arith, length-take-le n l inside)))

  below : {k : ℕ} {x : A} → Nth (take n l) k x → k < n
  below r = omega (arith, nth_inside r, length-take-le n l inside)

  -- the test is true of an entry of that name
  passes : {k : ℕ} {x : A} → Nth (take n l) k x → bytes_of s (name x) ≡ w → same (bytes_of s (name (get_or l k d))) w ≡ true
  passes {k} r g = ap (λ (x : A). same (bytes_of s (name x)) w) (nth_once (stands k (below r)) r) ∙ ap (λ (b : List ℕ). same b w) g ∙ same_true w

  pub found_last : (k : ℕ) → last_below (λ j. same (bytes_of s (name (get_or l j d))) w) n ≡ Some k → LastNamed name s w (take n l) (get_or l k d)
  found_last k e =
      let f = last_found (λ j. same (bytes_of s (name (get_or l j d))) w) n k e in
      record {
        row = k;
        last = record {
          at = get_or l k d;
          stands = stands k f.0;
          true_of = true_same (bytes_of s (name (get_or l k d))) w f.1;
          after = λ m x h r g. true≢false (sym (passes r g) ∙ f.2 m h (below r));
        };
        entry = refl;
      }

  pub found_none : last_below (λ j. same (bytes_of s (name (get_or l j d))) w) n ≡ None → Unnamed name s w (take n l)
  found_none e k x r g = true≢false (sym (passes r g) ∙ last_missing (λ j. same (bytes_of s (name (get_or l j d))) w) n e k (below r))

-- ---- a stream's number

module _ (make : StreamData → PositionData → Result Chosen Refusal) (s : List ℕ) (h : Header) (a : Arrays h) (f : record_fits (length s) h ≡ true) (i : ℕ) where
  pub numbered_so : Numbered make s h i (numbered make s h i)
  numbered_so = by_number (le_or_lt h.global.stream_type_count i)
    where
      ps : h.position_count ≤ length h.positions
      ps = omega (arith, (fits (length s) h f).positions, a.positions)

      ds : h.stream_count ≤ length h.streams
      ds = omega (arith, (fits (length s) h f).streams, a.streams)

      by_stream : (l : i < h.global.stream_type_count) {p : ℕ} → position_named s h.positions h.position_count (type_name s h i) ≡ Some p
          → (y : Option ℕ) → stream_named s h.streams h.stream_count (type_name s h i) ≡ y → Numbered make s h i (numbered make s h i)
      by_stream l {p} e (Some k) g =
          subst (Numbered make s h i) (named.both make s h i l e g)
          (entries l
          (found_last position_name no_position_data s (type_name s h i) h.positions h.position_count ps p e)
          (found_last stream_name no_stream_data s (type_name s h i) h.streams h.stream_count ds k g))
      by_stream l {p} e None g =
          subst (Numbered make s h i) (named.no_stream make s h i l e g)
          (no_stream l
          (found_last position_name no_position_data s (type_name s h i) h.positions h.position_count ps p e)
          (found_none stream_name no_stream_data s (type_name s h i) h.streams h.stream_count ds g))

      by_position : (l : i < h.global.stream_type_count) (y : Option ℕ) → position_named s h.positions h.position_count (type_name s h i) ≡ y → Numbered make s h i (numbered make s h i)
      by_position l (Some p) e = by_stream l e (stream_named s h.streams h.stream_count (type_name s h i)) refl
      by_position l None e =
          subst (Numbered make s h i) (named.no_position make s h i l e)
          (no_position l (found_none position_name no_position_data s (type_name s h i) h.positions h.position_count ps e))

      by_number : (h.global.stream_type_count ≤ i) ⊎ (i < h.global.stream_type_count) → Numbered make s h i (numbered make s h i)
      by_number (inl l) = subst (Numbered make s h i) (named.no_number make s h i l) (no_number l)
      by_number (inr l) = by_position l (position_named s h.positions h.position_count (type_name s h i)) refl

-- ---- at most one answer

module _ {A : Type 0} {name : A → Span} {s w : List ℕ} {l : List A} where
  named_once : {x y : A} → LastNamed name s w l x → LastNamed name s w l y → x ≡ y
  named_once {x} {y} a b =
      sym a.entry
      ∙ nth_once a.last.stands (subst (λ (k : ℕ). Nth l k b.last.at) (last_once b.last a.last) b.last.stands)
      ∙ b.entry

  named_never : {x : A} → LastNamed name s w l x → Unnamed name s w l → ⊥
  named_never a u = u a.row a.last.at a.last.stands a.last.true_of

pub numbered_once : {make : StreamData → PositionData → Result Chosen Refusal} {s : List ℕ} {h : Header} {i : ℕ} {a b : Result Chosen Refusal} → Numbered make s h i a → Numbered make s h i b → a ≡ b
numbered_once (no_number l) (no_number m) = refl
numbered_once (no_number l) (no_position m u) = refl
numbered_once (no_number l) (no_stream m p u) = absurd (omega arith)
numbered_once (no_number l) (entries m p d) = absurd (omega arith)
numbered_once (no_position l u) (no_number m) = refl
numbered_once (no_position l u) (no_position m v) = refl
numbered_once (no_position l u) (no_stream m p v) = absurd (named_never p u)
numbered_once (no_position l u) (entries m p d) = absurd (named_never p u)
numbered_once (no_stream l p u) (no_number m) = absurd (omega arith)
numbered_once (no_stream l p u) (no_position m v) = absurd (named_never p v)
numbered_once (no_stream l p u) (no_stream m q v) = refl
numbered_once (no_stream l p u) (entries m q d) = absurd (named_never d u)
numbered_once (entries l p d) (no_number m) = absurd (omega arith)
numbered_once (entries l p d) (no_position m v) = absurd (named_never p v)
numbered_once (entries l p d) (no_stream m q v) = absurd (named_never d v)
numbered_once {make = make} (entries l p d) (entries m q e) = ap₂ make (named_once d e) (named_once p q)

-- ---- the model asked for

pub chosen_so : (s : List ℕ) (h : Header) → Arrays h → (w : Which) → Choice s h w (chosen_of s h w)
unfolding chosen_of
chosen_so s h a w = go (record_fits (length s) h) refl w
  where
    go : (b : Bool) → record_fits (length s) h ≡ b → (w : Which) → Choice s h w (cond b (asked s h w) (Err refusal.Range))
    go false e w = unfit e
    go true e Duration = duration e
    go true e (Stream i) = stream e (numbered_so stream_model s h a e i)
    go true e (Gv i) = gv e (numbered_so gv_model s h a e i)

pub chosen_once : {s : List ℕ} {h : Header} {w : Which} {a b : Result Chosen Refusal} → Choice s h w a → Choice s h w b → a ≡ b
chosen_once (unfit e) (unfit f) = refl
chosen_once (unfit e) (duration f) = absurd (true≢false (sym f ∙ e))
chosen_once (unfit e) (stream f n) = absurd (true≢false (sym f ∙ e))
chosen_once (unfit e) (gv f n) = absurd (true≢false (sym f ∙ e))
chosen_once (duration e) (unfit f) = absurd (true≢false (sym e ∙ f))
chosen_once (duration e) (duration f) = refl
chosen_once (stream e m) (unfit f) = absurd (true≢false (sym e ∙ f))
chosen_once (stream e m) (stream f n) = numbered_once m n
chosen_once (gv e m) (unfit f) = absurd (true≢false (sym e ∙ f))
chosen_once (gv e m) (gv f n) = numbered_once m n
