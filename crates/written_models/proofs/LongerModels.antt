-- Bytes behind a file: its models are those that they were, each stands where it stood, its text says what it said, and its block has the bytes that it had.
use mathlib.Core.Path.{◌≡◌, refl, sym, ap, ◌∙◌, subst}
use mathlib.Core.List.{List, ◌++◌}
use Prim.Native.Nat.{ℕ, ◌+◌}
use native.Mathlib.Omega.{arith}
use lib.ListN.{length, take, drop, length-append}
use lib.Seq.{take-append-le}
use Rattle.written.specs.Bytes.{Span}
use Rattle.written.specs.HeaderText.{Range}
use Rattle.written.specs.Record.{Stream, Position, Header, All, Says}
use Rattle.written.specs.Said.{Text, Layout}
use Rattle.written.specs.TreeText as tree
use Rattle.written.specs.Breaks.{Breaks}
use Rattle.written.specs.Linking.{Nth}
use Rattle.written.specs.Models.{Model, bytes_of, stream_name, position_name, LastNamed, Unnamed, data_of, Within, EntriesOf, Placed, of_duration, of_stream, of_gv, NoGv, Unplaced, StreamModels, Models, voice, TextOf, NoTextOf}
use Rattle.written.specs.Trailer.{longer}
use Rattle.written_models.proofs.Longer.{bytes-append, data_longer}
use Rattle.written_models.proofs.Named.{Before, all_nth, names_inside}

-- ---- entries by their name

module _ {A : Type 0} (name : A → Span) (s t : List ℕ) {l : List A} (inside : All (λ e. Before (length s) (name e)) l) where
  same_name : {k : ℕ} {x : A} → Nth l k x → bytes_of (s ++ t) (name x) ≡ bytes_of s (name x)
  same_name {k} {x} n = bytes-append s t (name x) (all_nth inside n)

  named_longer : {w v : List ℕ} {x : A} → w ≡ v → LastNamed name s w l x → LastNamed name (s ++ t) v l x
  named_longer {w} {v} {x} e a =
      record {
        row = a.row;
        last =
            record {
              at = a.last.at;
              stands = a.last.stands;
              true_of = same_name a.last.stands ∙ a.last.true_of ∙ e;
              after = λ m y o n p. a.last.after m y o n (sym (same_name n) ∙ p ∙ sym e);
            };
        entry = a.entry;
      }

  unnamed_longer : {w v : List ℕ} → w ≡ v → Unnamed name s w l → Unnamed name (s ++ t) v l
  unnamed_longer e a k x n p = a k x n (sym (same_name n) ∙ p ∙ sym e)

-- ---- ranges inside the data

module _ (d t : List ℕ) (r : Range) where
  pub within_longer : Within r d → Within r (d ++ t)
  within_longer i = record { order = i.order; ends = omega (arith, length-append d t, i.ends) }

  -- what stands up to the end of a range
  pub front_same : Within r d → take (r.to + 1) (d ++ t) ≡ take (r.to + 1) d
  front_same i = take-append-le (r.to + 1) d t i.ends

-- ---- models

module _ {s : List ℕ} {h : Header} (a : Says s h) (t : List ℕ) where
  type_same : {i : ℕ} {x : Span} → Nth h.global.stream_type i x → bytes_of s x ≡ bytes_of (s ++ t) x
  type_same {i} {x} n = sym (bytes-append s t x (all_nth (names_inside a).types n))

  position_longer : {i : ℕ} {x : Span} {p : Position} → Nth h.global.stream_type i x → LastNamed position_name s (bytes_of s x) h.positions p
      → LastNamed position_name (s ++ t) (bytes_of (s ++ t) x) h.positions p
  position_longer n b = named_longer position_name s t (names_inside a).positions (type_same n) b

  stream_longer : {i : ℕ} {x : Span} {d : Stream} → Nth h.global.stream_type i x → LastNamed stream_name s (bytes_of s x) h.streams d
      → LastNamed stream_name (s ++ t) (bytes_of (s ++ t) x) h.streams d
  stream_longer n b = named_longer stream_name s t (names_inside a).streams (type_same n) b

  entries_longer : {i : ℕ} {d : Stream} {p : Position} → EntriesOf s h i d p → EntriesOf (s ++ t) (longer h (length t)) i d p
  entries_longer e = record { name = e.name; named = e.named; in_positions = position_longer e.named e.in_positions; in_streams = stream_longer e.named e.in_streams }

  pub placed-longer : {m : Model} {x y : Range} {w : ℕ} → Placed s h m x y w → Placed (s ++ t) (longer h (length t)) m x y w
  placed-longer of_duration = of_duration
  placed-longer (of_stream e) = of_stream (entries_longer e)
  placed-longer (of_gv e u p q) = of_gv (entries_longer e) u p q

  no_gv_longer : {d : Stream} {p : Position} → NoGv s h d p → NoGv (s ++ t) (longer h (length t)) d p
  no_gv_longer (NoGv.unused e) = NoGv.unused e
  no_gv_longer (NoGv.no_tree e) = NoGv.no_tree e
  no_gv_longer (NoGv.no_block e) = NoGv.no_block e

  pub unplaced_longer : {m : Model} {n : ℕ} → Unplaced s h m n → Unplaced (s ++ t) (longer h (length t)) m n
  unplaced_longer (Unplaced.no_name o n) = Unplaced.no_name o n
  unplaced_longer (Unplaced.no_position o n u) = Unplaced.no_position o n (unnamed_longer position_name s t (names_inside a).positions (type_same n) u)
  unplaced_longer (Unplaced.no_stream o n p u) = Unplaced.no_stream o n (position_longer n p) (unnamed_longer stream_name s t (names_inside a).streams (type_same n) u)
  unplaced_longer (Unplaced.no_gv e g) = Unplaced.no_gv (entries_longer e) (no_gv_longer g)

  stream_models_longer : {i : ℕ} {xs : List Span} {ms : List Model} → All (Before (length s)) xs → StreamModels s h i xs ms → StreamModels (s ++ t) (longer h (length t)) i xs ms
  stream_models_longer b StreamModels.end = StreamModels.end
  stream_models_longer (All.next b bs) (StreamModels.both {x = x} n u m) =
      StreamModels.both (named_longer stream_name s t (names_inside a).streams (sym (bytes-append s t x b)) n) u (stream_models_longer bs m)
  stream_models_longer (All.next b bs) (StreamModels.alone {x = x} n u m) =
      StreamModels.alone (named_longer stream_name s t (names_inside a).streams (sym (bytes-append s t x b)) n) u (stream_models_longer bs m)
  stream_models_longer (All.next b bs) (StreamModels.unnamed {x = x} n m) =
      StreamModels.unnamed (unnamed_longer stream_name s t (names_inside a).streams (sym (bytes-append s t x b)) n) (stream_models_longer bs m)

  pub models_longer : {ms : List Model} → Models s h ms → Models (s ++ t) (longer h (length t)) ms
  models_longer (voice m) = voice (stream_models_longer (names_inside a).types m)

  -- ---- texts and blocks

  pub inside_longer : {r : Range} → Within r (data_of s h) → Within r (data_of (s ++ t) (longer h (length t)))
  inside_longer {r} i = subst (Within r) (sym (data_longer s t a)) (within_longer (data_of s h) t r i)

  pub front-longer : (r : Range) → Within r (data_of s h) → take (r.to + 1) (data_of (s ++ t) (longer h (length t))) ≡ take (r.to + 1) (data_of s h)
  front-longer r i = ap (take (r.to + 1)) (data_longer s t a) ∙ front_same (data_of s h) t r i

  -- a text that lies inside the data says what it said
  pub text_longer : {m : Model} {x : Text} {l : Layout} → TextOf s h m x l → TextOf (s ++ t) (longer h (length t)) m x l
  text_longer {m} {x} {l} b =
      record {
        tree = b.tree;
        block = b.block;
        width = b.width;
        placed = placed-longer b.placed;
        inside = inside_longer b.inside;
        says = subst (λ (d : List ℕ). tree.Says d b.tree.from x l) (sym (front-longer b.tree b.inside)) b.says;
        natural = b.natural;
      }

  -- a block that lies inside the data has the bytes that it had
  pub block_longer : (r : Range) → Within r (data_of s h) → drop r.from (take (r.to + 1) (data_of (s ++ t) (longer h (length t)))) ≡ drop r.from (take (r.to + 1) (data_of s h))
  block_longer r i = ap (drop r.from) (front-longer r i)

  -- what was refused is refused with the same number and place, but for 16: a range past the data may come to lie inside
  pub no_text_longer : {m : Model} {n p : ℕ} → NoTextOf s h m n p → ¬ (n ≡ 16) → NoTextOf (s ++ t) (longer h (length t)) m n p
  no_text_longer (NoTextOf.unplaced u) e = NoTextOf.unplaced (unplaced_longer u)
  no_text_longer (NoTextOf.outside p o) e = absurd (e refl)
  no_text_longer (NoTextOf.breaks {t = r} {p = q} p i b) e =
      NoTextOf.breaks (placed-longer p) (inside_longer i) (subst (λ (d : List ℕ). Breaks d r.from q) (sym (front-longer r i)) b)
  no_text_longer (NoTextOf.negative {t = r} {x = x} {l = l} p i y g) e =
      NoTextOf.negative (placed-longer p) (inside_longer i) (subst (λ (d : List ℕ). tree.Says d r.from x l) (sym (front-longer r i)) y) g
