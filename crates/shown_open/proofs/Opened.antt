-- Opening a file answers as `written` says: a file that is accepted says the record that stands in the answer, a file that is refused is refused so; and
-- since a file says at most one record, or is refused in one way, also the other way round.
use mathlib.Core.Path.{◌≡◌, refl, sym, ap, ◌∙◌, subst}
use mathlib.Core.Bool.{Bool, true, false, cond}
use mathlib.Core.List.{List, map}
use Prim.Native.Nat.{ℕ, ◌≤◌}
use borrow.Author.Tests.{ltb-true, ltb-false}
use lib.Dec.{ltb}
use lib.ListN.{length}
use Rattle.std.specs.Prelude.{Option, Some, None, Ok, Err}
use Rattle.written.specs.Record.{file_limit, GlobalText, GlobalFits, StreamText, StreamsFit, Says}
use Rattle.written.specs.Record as record_of
use Rattle.written.specs.Sections as says-split
use Rattle.written.specs.Faults.{NoHeader, Refused}
use Rattle.written_total.proofs.Eleven.{refused_other}
use Rattle.written.proofs.OneFile.{says_one}
use Rattle.written_apart.proofs.ApartFile.{refused_one, says_never}
use Rattle.error.specs.Numbers as error
use Rattle.error.specs.declared.Refusal.{Refusal}
use Rattle.error.specs.declared.Refusal.TheVariants as refusal
use Rattle.head_record.specs.Empty.{empty_stream}
use Rattle.head_record.specs.Lists.{filled}
use Rattle.head_record.specs.Record.{global_record, stream_record, header_record}
use Rattle.head_record.specs.declared.Header.{Header}
use Rattle.head_de.proofs.Sound.{Bytes}
use Rattle.head_lines.proofs.Moves.{no as never}
use Rattle.head_global.specs.declared.GlobalRead.{GlobalRead}
use Rattle.head_streams.specs.declared.Streams.{Streams}
use Rattle.head_streams.specs.declared.GroupsRead as streams-read
use Rattle.head_sections.specs.Split.{split_of}
use Rattle.head_sections.specs.declared.Parts.{Parts}
use Rattle.head_sections.proofs.Join.{said, split_sound, unsplit_sound}
use Rattle.head_open.specs.Open.{Inside, no_positions_for, global_of, streams_of, positions_of, made, refused_with, header_of, with_positions, with_streams, with_global, parts_of, split_into, open_of}
use Rattle.head_open.specs.declared.Opened.{Opened}
use Rattle.head_open.specs.declared.PositionRead.{PositionRead}
use Rattle.head_open.proofs.Inside.{split_inside}
use Rattle.shown_open.specs.Said.{header_said}
use Rattle.shown_open.proofs.Back.{header_back}
use Rattle.shown_open.proofs.Parts.{GlobalAnswer, global_text, no_global, global_part, StreamAnswer, stream_text, no_streams, stream_part, PositionAnswer, position_text, no_positions, position_part}

pub data OpenAnswer (s : List ℕ) : Opened → Type 0 where
  says : (h : record_of.Header) → Says s h → OpenAnswer s (made (Ok tt) (header_record h))
  refused : (r : Refusal) → Refused s (error.number_of r) (error.place_of r) → OpenAnswer s (refused_with r)

-- ---- the three sections of a file that splits

module _ {s : List ℕ} (bytes : Bytes s) (fits : length s ≤ file_limit) (p : Parts) (split : says-split.Sections s (said p)) (inside : Inside s p) where
  none : (r : Refusal) → NoHeader s (said p) (error.number_of r) (error.place_of r) → OpenAnswer s (refused_with r)
  none r n = refused r (Refused.sections fits split n)

  parts_sound : OpenAnswer s (parts_of s p)
  unfolding parts_of header_record no_positions_for
  parts_sound = global (global_of s p.global) (global_part bytes p.global inside.global)
    where
      positions : (g : record_of.Global) → GlobalText s (said p).global g → GlobalFits g → (ds : List record_of.Stream) → StreamText s (said p).stream ds → StreamsFit ds → (t : Streams)
          → t.items ≡ filled 8 empty_stream (map stream_record ds) → t.names.count ≡ length ds → (z : PositionRead) → PositionAnswer s p.position z
          → OpenAnswer s (with_positions (global_record g) t p.rest z z.verdict)
      positions g a b ds c f t e n z (position_text {d = d} {t = u} pdf tree qs y k q v w m) =
          let h : record_of.Header = record { global = g; streams = ds; duration_pdf = pdf; duration_tree = tree; positions = qs; datum = (said p).rest } in
          let o : header_of (global_record g) t d u p.rest ≡ header_record h =
          λ i. record { global = global_record g; streams = e i; stream_count = n i; duration_pdf = q i; duration_tree = v i; positions = w i; position_count = m i; data_start = p.rest.start; data_len = p.rest.len } in
          subst (λ (k : Header). OpenAnswer s (made (Ok tt) k)) (sym o)
          (says h (record { parts = said p; fits = fits; split = split; global = a; global_fits = b; streams = c; streams_fit = f; positions = y; positions_fit = k; datum = refl }))
      positions g a b ds c f t e n z (no_positions r y) = none r (NoHeader.no_positions a b c f y)

      streams : (g : record_of.Global) → GlobalText s (said p).global g → GlobalFits g → (z : streams-read.GroupsRead) → StreamAnswer s p.stream z → OpenAnswer s (with_streams s p (global_record g) z.streams z.verdict)
      streams g a b z (stream_text {t = t} ds c f e n) = positions g a b ds c f t e n (positions_of s p.position) (position_part bytes p.position inside.position)
      streams g a b z (no_streams {r = r} y) = none r (NoHeader.no_streams a b y)

      global : (z : GlobalRead) → GlobalAnswer s p.global z → OpenAnswer s (with_global s p z.global z.verdict)
      global z (global_text {g = g} a b) = streams g a b (streams_of s p.stream) (stream_part bytes p.stream inside.stream)
      global z (no_global {r = r} y) = none r (NoHeader.no_global y)

-- ---- a file

-- every file of bytes says the record of the answer, or is refused as it says
pub open_sound : {s : List ℕ} → Bytes s → OpenAnswer s (open_of s)
unfolding open_of
open_sound {s} bytes = go (ltb file_limit (length s)) refl
  where
    split : length s ≤ file_limit → (x : Option Parts) → split_of s ≡ x → OpenAnswer s (split_into s x)
    split l None e = refused refusal.Split (Refused.unsplit l (λ q. unsplit_sound s e q))
    split l (Some p) e = parts_sound bytes l p (split_sound s p e) (split_inside s p e)

    go : (t : Bool) → ltb file_limit (length s) ≡ t → OpenAnswer s (cond t (refused_with refusal.Limit) (split_into s (split_of s)))
    go true e = refused refusal.Limit (Refused.too_long (ltb-true file_limit (length s) e))
    go false e = split (ltb-false file_limit (length s) e) (split_of s) refl

-- ---- both ways

module _ {s : List ℕ} (bytes : Bytes s) where
  -- an accepted file says the record that stands in the answer
  pub open_says : (open_of s).verdict ≡ Ok tt → (h : record_of.Header) × Says s h × ((open_of s).header ≡ header_record h)
  unfolding refused_with
  open_says e = go (open_of s) (open_sound bytes) e
    where
      go : (o : Opened) → OpenAnswer s o → o.verdict ≡ Ok tt → (h : record_of.Header) × Says s h × (o.header ≡ header_record h)
      go o (says h y) f = (h, y, refl)
      go o (refused r n) f = never cc

  -- a file that says a record is accepted, with that record
  pub says_open : {h : record_of.Header} → Says s h → open_of s ≡ made (Ok tt) (header_record h)
  says_open {h} y = go (open_of s) (open_sound bytes)
    where
      go : (o : Opened) → OpenAnswer s o → o ≡ made (Ok tt) (header_record h)
      go o (says k z) = ap (λ (q : record_of.Header). made (Ok tt) (header_record q)) (says_one z y)
      go o (refused r n) = absurd (says_never y n)

  -- a refused file is refused so: the number and the place of what is wrong with it
  pub open_refused : {r : Refusal} → (open_of s).verdict ≡ Err r → Refused s (error.number_of r) (error.place_of r)
  unfolding refused_with
  open_refused {r} e = go (open_of s) (open_sound bytes) e
    where
      go : (o : Opened) → OpenAnswer s o → o.verdict ≡ Err r → Refused s (error.number_of r) (error.place_of r)
      go o (says h y) f = never cc
      go o (refused q n) f = let k : q ≡ r = cc in subst (λ (x : Refusal). Refused s (error.number_of x) (error.place_of x)) k n

  -- and never with 11 (02, Wish 14), whatever cases `Refusal` has
  pub open_never_11 : {r : Refusal} → (open_of s).verdict ≡ Err r → ¬ (error.number_of r ≡ 11)
  open_never_11 e = refused_other (open_refused e)

  -- a file that is refused is answered with that number and place, and the empty record
  pub refused_open : {n k : ℕ} → Refused s n k → (r : Refusal) × (open_of s ≡ refused_with r) × (error.number_of r ≡ n) × (error.place_of r ≡ k)
  refused_open {n} {k} x = go (open_of s) (open_sound bytes)
    where
      go : (o : Opened) → OpenAnswer s o → (r : Refusal) × (o ≡ refused_with r) × (error.number_of r ≡ n) × (error.place_of r ≡ k)
      go o (says h y) = absurd (says_never y x)
      go o (refused r y) = let q = refused_one y x in (r, refl, q.0, q.1)

  -- ---- the same of the record read back from the structs

  -- an accepted file says what its structs say
  pub open_said : (open_of s).verdict ≡ Ok tt → Says s (header_said (open_of s).header)
  open_said e =
      let y = open_says e in
      subst (Says s) (sym (ap header_said y.2 ∙ header_back y.0 y.1.global_fits y.1.streams_fit y.1.positions_fit)) y.1

  -- a file that says a record is accepted, and its structs say that record
  pub said_open : {h : record_of.Header} → Says s h → ((open_of s).verdict ≡ Ok tt) × (header_said (open_of s).header ≡ h)
  said_open {h} y =
      let o = says_open y in
      (ap (λ (z : Opened). z.verdict) o, ap (λ (z : Opened). header_said z.header) o ∙ header_back h y.global_fits y.streams_fit y.positions_fit)
