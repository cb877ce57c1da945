-- A record that a file says fits the file: 16 for the record is only for records that no opening made.
use mathlib.Core.Path.{◌≡◌, refl, sym, subst}
use mathlib.Core.Bool.{Bool, true, cond}
use mathlib.Core.List.{List, [], ◌∷◌, map}
use mathlib.Core.Option.{Option, some, none}
use Prim.Native.Nat.{ℕ, zero, suc, ◌+◌, ◌≤◌}
use native.Mathlib.Omega.{arith}
use borrow.Author.Tests.{le-leb}
use lib.ListN.{length, length-take}
use Rattle.written.specs.Bytes as written
use Rattle.written.specs.HeaderText.{Many, Field, Entry, NextLine}
use Rattle.written.specs.Groups.{Group, Pointwise}
use Rattle.written.specs.Record as record_of
use Rattle.written.specs.Record.{All, up_to, SaysGlobal, SaysStream, GroupSays, GroupsOf, GlobalFits, StreamSays, PositionSays, stream_group, position_group, file_limit, Says}
use Rattle.head_record.specs.Empty.{no_span, empty_stream, empty_position}
use Rattle.head_record.specs.Lists.{filled, span_of}
use Rattle.head_record.specs.Record.{there as present, span_or, global_record, stream_record, position_record, header_record}
use Rattle.head_record_fits.specs.Fits.{each, counted, span_fits, global_fits, stream_fits, position_fits, record_fits}
use Rattle.head_record_fits.proofs.Inside.{In, PresentIn, ValueIn, value_more, all_map, EntryIn, lines_in, alone_in, text_said, texts_said, texts_perhaps, text_perhaps, groups_in, data_in}

-- ---- lists in arrays

module _ {A B : Type 0} (f : A → B) (p : B → Bool) (d : B) where
  each_filled : (m : ℕ) (l : List A) → length l ≤ m → All (λ a. p (f a) ≡ true) l → each p (length l) (filled m d (map f l)) ≡ true
  unfolding each filled
  each_filled m [] h All.end = refl
  each_filled zero (a ∷ l) h q = absurd (omega arith)
  each_filled (suc m) (a ∷ l) h (All.next e q) = rw e (each_filled m l (omega arith) q)

  counted-filled : (m : ℕ) (l : List A) → length l ≤ m → All (λ a. p (f a) ≡ true) l → counted m p (length l) (filled m d (map f l)) ≡ true
  unfolding counted
  counted-filled m l h q = rw (le-leb (length l) m h) (each_filled m l h q)

-- ---- strings

span_fits_lem : {n : ℕ} (x : written.Span) → In n x → span_fits n (span_of x) ≡ true
unfolding span_fits
span_fits_lem {n} x p = le-leb (x.start + x.len) n p.ends

spans_fit : {n : ℕ} {l : List written.Span} → All (In n) l → All (λ x. span_fits n (span_of x) ≡ true) l
spans_fit q = all_map span_fits_lem q

-- ---- the sections, in a file of n bytes

comment_fits : (n : ℕ) (x : Option written.Span) → PresentIn n x → cond (present x) (span_fits n (span_or x)) true ≡ true
comment_fits n none p = refl
comment_fits n (some x) p = span_fits_lem x p

module _ {n : ℕ} where
  global_fits_lem : {xs : List Entry} {g : record_of.Global} → All (λ x. ValueIn n x.value) xs → SaysGlobal xs g → GlobalFits g → global_fits n (global_record g) ≡ true
  unfolding global_fits global_record
  global_fits_lem {xs} {g} a t f =
      rw (
        span_fits_lem g.hts_voice_version (text_said a "HTS_VOICE_VERSION" t.hts_voice_version),
        span_fits_lem g.fullcontext_format (text_said a "FULLCONTEXT_FORMAT" t.fullcontext_format),
        span_fits_lem g.fullcontext_version (text_said a "FULLCONTEXT_VERSION" t.fullcontext_version),
        counted-filled span_of (span_fits n) no_span 8 g.stream_type f.names (spans_fit (texts_said a "STREAM_TYPE" t.stream_type)),
        counted-filled span_of (span_fits n) no_span 32 g.gv_off_context f.contexts (spans_fit (texts_perhaps a "GV_OFF_CONTEXT" t.gv_off_context)),
      )
      (comment_fits n g.comment (text_perhaps a "COMMENT" t.comment))

  stream_fits_lem : {xs : List Entry} {d : record_of.Stream} → All (λ x. ValueIn n x.value) xs → In n d.name → SaysStream xs d → length d.option ≤ 16
      → stream_fits n (stream_record d) ≡ true
  unfolding stream_fits stream_record
  stream_fits_lem {xs} {d} a p t h =
      rw (span_fits_lem d.name p) (counted-filled span_of (span_fits n) no_span 16 d.option h (spans_fit (texts_perhaps a "OPTION" t.option)))

  position_fits_lem : (d : record_of.Position) → In n d.name → length d.stream_win ≤ 8 → position_fits n (position_record d) ≡ true
  unfolding position_fits position_record
  position_fits_lem d p h = rw (span_fits_lem d.name p) (le-leb (length d.stream_win) 8 h)

  module _ {s : List ℕ} (l : length s ≤ n) where
    streams_fit : {gs : List Group} {ds : List record_of.Stream} → Pointwise (GroupSays stream_group StreamSays s) gs ds → All (λ g. In n g.name) gs → All (λ d. length d.option ≤ 16) ds
        → All (λ d. stream_fits n (stream_record d) ≡ true) ds
    streams_fit Pointwise.none a b = All.end
    streams_fit (Pointwise.more {a = g} {b = d} q m) (All.next p a) (All.next h b) =
        All.next
        (stream_fits_lem {d = d} (all_map (λ x. value_more l x.value) (alone_in q.entries.says)) (subst (In n) (sym q.says.0) p) q.says.1 h)
        (streams_fit m a b)

    positions_fit : {gs : List Group} {ds : List record_of.Position} → Pointwise (GroupSays position_group PositionSays s) gs ds → All (λ g. In n g.name) gs
        → All (λ d. length d.stream_win ≤ 8) ds → All (λ d. position_fits n (position_record d) ≡ true) ds
    positions_fit Pointwise.none a b = All.end
    positions_fit (Pointwise.more {a = g} {b = d} q m) (All.next p a) (All.next h b) = All.next (position_fits_lem d (subst (In n) (sym q.says.0) p) h) (positions_fit m a b)

-- ---- the file

module _ (file : List ℕ) where
  -- what stands in the text of a section stands in the file
  up_to_lem : (x : written.Span) → length (up_to file x) ≤ length file
  up_to_lem x = omega (arith, length-take (x.start + x.len) file)

  entry_more : (x : written.Span) {y : Entry} → EntryIn (length (up_to file x)) y → EntryIn (length file) y
  entry_more x {y} e = record { key = omega (arith, e.key, up_to_lem x); value = value_more (up_to_lem x) y.value e.value }

  pub says_fits : (h : record_of.Header) → Says file h → record_fits (length file) (header_record h) ≡ true
  unfolding record_fits header_record
  says_fits h r =
      rw (
        le-leb (length file) file_limit r.fits,
        span_fits_lem h.datum (subst (In (length file)) (sym r.datum) (data_in r.split)),
        global_fits_lem (all_map (λ x e. (entry_more r.parts.global e).value) (lines_in r.global.lines.lines)) r.global.says r.global_fits,
        counted-filled stream_record (stream_fits (length file)) empty_stream 8 h.streams r.streams_fit.names
            (streams_fit (up_to_lem r.parts.stream) r.streams.say (names r.parts.stream r.streams.lines.lines r.streams.groups) r.streams_fit.options),
      )
      (counted-filled position_record (position_fits (length file)) empty_position 8 h.positions r.positions_fit.names
      (positions_fit (up_to_lem r.parts.position) r.positions.say (names r.parts.position r.positions.lines.lines r.positions.groups) r.positions_fit.windows))
    where
      names : (x : written.Span) {T : List Field} {xs : List Entry} {i k : ℕ} {gs : List Group} → Many (NextLine T (up_to file x)) i xs k → GroupsOf xs gs → All (λ g. In (length file) g.name) gs
      names x m g = groups_in g.of_lines g.by_name (all_map (λ y e. entry_more x e) (lines_in m))
