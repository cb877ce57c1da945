-- Each of the three sections of a file answers as `written` says: UTF-8 first, then its lines, missing fields, groups, and limits last.
use mathlib.Core.Path.{◌≡◌, refl}
use mathlib.Core.List.{List, [], map, Memᴰ}
use Prim.Native.Nat.{ℕ, ◌+◌, ◌≤◌}
use native.Mathlib.Omega.{arith}
use lib.ListN.{length}
use lib.Seq.{length-take-le}
use Rattle.std.specs.Prelude.{Result, Ok, Err, ⊤}
use Rattle.written.specs.Bytes.{part}
use Rattle.written.specs.Rfc3629.{Octets, FirstBad}
use Rattle.written.specs.HeaderText.{Range, Field, Entry, Section}
use Rattle.written.specs.Record.{global_fields, stream_fields, position_fields, GlobalText, GlobalFits, StreamText, StreamsFit, PositionText, PositionsFit}
use Rattle.written.specs.Record as record_of
use Rattle.written.specs.Faults.{Missing, Wrong, NoGlobal, NoStreams, NoPositions}
use Rattle.error.specs.Numbers as error
use Rattle.error.specs.declared.Refusal.{Refusal}
use Rattle.error.specs.declared.Refusal.TheVariants as refusal
use Rattle.text_utf8.specs.Check.{check_of}
use Rattle.text_utf8.proofs.Valid.{valid, bad}
use Rattle.head_record.specs.Empty.{empty_stream, empty_position}
use Rattle.head_record.specs.Lists.{filled, range_of}
use Rattle.head_record.specs.Record.{global_record, stream_record, position_record}
use Rattle.text_parts.specs.declared.Span.{Span}
use Rattle.head_de.proofs.Sound.{Bytes}
use Rattle.head_lines.specs.Lines.{Lines, whole, faulty, lines_at}
use Rattle.head_lines.proofs.Sound.{LinesAnswer, a_section, no_section, lines_sound}
use Rattle.head_global.specs.Global as global
use Rattle.head_global.specs.declared.GlobalRead.{GlobalRead}
use Rattle.head_global.proofs.Sound.{GlobalAnswers, global_sound}
use Rattle.head_global.proofs.Sound as answers
use Rattle.head_brackets.specs.Rows.{rows_at, over}
use Rattle.head_streams.specs.Groups as streams
use Rattle.head_streams.specs.declared.Streams.{Streams}
use Rattle.head_streams.specs.declared.GroupsRead as streams-read
use Rattle.head_positions.specs.declared.Positions.{Positions}
use Rattle.head_positions.specs.declared.GroupsRead as positions-read
use Rattle.head_ungrouped.specs.Ungrouped.{durations_in, verdict_in}
use Rattle.head_ungrouped.specs.declared.Durations.{Durations}
use Rattle.shown_groups.specs.Said.{span_said}
use Rattle.shown_groups.proofs.Reading.{bytes-front}
use Rattle.shown_streams.proofs.Sound as streams-said
use Rattle.shown_positions.proofs.Sound as positions-said
use Rattle.shown_positions.proofs.Lines.{DurationsAnswer, durations_say, lines_wrong, field_missing, durations_sound}
use Rattle.head_open.specs.Open.{utf8_verdict, utf8_of, up_to, global_for, global_of, no_streams_for, groups_for, streams_for, streams_of, made_position, no_positions_for, position_groups, groups_read, after_durations, positions_for, positions_of}
use Rattle.head_open.specs.declared.PositionRead.{PositionRead}

-- ---- UTF-8

pub data Utf8Answer (s : List ℕ) (x : Span) : Result ⊤ Refusal → Type 0 where
  characters : Octets (part s x.start x.len) → Utf8Answer s x (Ok tt)
  first_bad : (q : ℕ) → FirstBad (part s x.start x.len) q → Utf8Answer s x (Err (refusal.Utf8 (x.start + q)))

pub utf8_sound : (s : List ℕ) (x : Span) → Utf8Answer s x (utf8_of s x)
unfolding utf8_of
utf8_sound s x = go (check_of (part s x.start x.len)) refl
  where
    go : (a : Result Unit ℕ) → check_of (part s x.start x.len) ≡ a → Utf8Answer s x (utf8_verdict x.start a)
    go (Ok tt) e = characters ((valid (part s x.start x.len)).0 e)
    go (Err q) e = first_bad q ((bad (part s x.start x.len) q).0 e)

-- ---- the answers of the sections

pub data GlobalAnswer (s : List ℕ) (x : Span) : GlobalRead → Type 0 where
  global_text : {g : record_of.Global} → GlobalText s (span_said x) g → GlobalFits g → GlobalAnswer s x (global.made (Ok tt) (global_record g))
  no_global : {r : Refusal} → NoGlobal s (span_said x) (error.number_of r) (error.place_of r) → GlobalAnswer s x (global.refused_with r)

pub data StreamAnswer (s : List ℕ) (x : Span) : streams-read.GroupsRead → Type 0 where
  stream_text : {t : Streams} (ds : List record_of.Stream) → StreamText s (span_said x) ds → StreamsFit ds → t.items ≡ filled 8 empty_stream (map stream_record ds) → t.names.count ≡ length ds
      → StreamAnswer s x (streams.made (Ok tt) t)
  no_streams : {r : Refusal} → NoStreams s (span_said x) (error.number_of r) (error.place_of r) → StreamAnswer s x (no_streams_for r)

pub data PositionAnswer (s : List ℕ) (x : Span) : PositionRead → Type 0 where
  position_text : {d : Durations} {t : Positions} (pdf tree : Range) (ds : List record_of.Position) → PositionText s (span_said x) pdf tree ds → PositionsFit ds → d.pdf ≡ range_of pdf → d.tree ≡ range_of tree
      → t.items ≡ filled 8 empty_position (map position_record ds) → t.names.count ≡ length ds → PositionAnswer s x (made_position (Ok tt) d t)
  no_positions : (r : Refusal) → NoPositions s (span_said x) (error.number_of r) (error.place_of r) → PositionAnswer s x (no_positions_for r)

module _ {s : List ℕ} (bytes : Bytes s) (x : Span) (inside : x.start + x.len ≤ length s) where
  upto_bytes : Bytes (up_to s x)
  upto_bytes = bytes-front bytes (x.start + x.len) inside

  start_in : x.start ≤ length (up_to s x)
  start_in = omega (arith, length-take-le (x.start + x.len) s inside)

  -- ---- [GLOBAL]

  pub global_part : GlobalAnswer s x (global_of s x)
  unfolding global_of
  global_part = go (utf8_of s x) (utf8_sound s x)
    where
      lines : Octets (part s x.start x.len) → (z : GlobalRead) → GlobalAnswers (up_to s x) x.start z → GlobalAnswer s x z
      lines o z (answers.says {xs = xs} c y f) = global_text (record { xs = xs; utf8 = o; lines = c; says = y }) f
      lines o z (answers.lines n) = no_global (NoGlobal.wrong (Wrong.lines o n))
      lines o z (answers.missing c m) = no_global (NoGlobal.wrong (Wrong.missing o c m))
      lines o z (answers.too_many {xs = xs} c y f) = no_global (NoGlobal.too_many (record { xs = xs; utf8 = o; lines = c; says = y }) f)

      go : (v : Result ⊤ Refusal) → Utf8Answer s x v → GlobalAnswer s x (global_for (up_to s x) x.start v)
      go (Ok _) (characters o) = lines o (global.global_in (lines_at global_fields (up_to s x) x.start)) (global_sound upto_bytes x.start start_in)
      go (Err r) (first_bad q f) = no_global (NoGlobal.wrong (Wrong.utf8 f))

  -- ---- [STREAM]

  no_stream_field : {xs : List Entry} → ¬ Missing stream_fields xs
  unfolding stream_fields
  no_stream_field m = none m.of_table
    where
      none : {f : Field} → Memᴰ f [] → ⊥
      none k = elim k [ ]

  stream_room : length stream_fields ≤ 10
  unfolding stream_fields
  stream_room = omega arith

  pub stream_part : StreamAnswer s x (streams_of s x)
  unfolding streams_of
  stream_part = go (utf8_of s x) (utf8_sound s x)
    where
      groups : Octets (part s x.start x.len) → {xs : List Entry} → Section stream_fields (up_to s x) x.start xs → (z : streams-read.GroupsRead) → streams-said.StreamsAnswer (up_to s x) xs z → StreamAnswer s x z
      groups o {xs} c z (streams-said.streams_say {gs = gs} ds g p f e n) = stream_text ds (record { xs = xs; gs = gs; utf8 = o; lines = c; groups = g; say = p }) f e n
      groups o {xs} c z (streams-said.group_wrong g n) = no_streams (NoStreams.wrong (Wrong.groups o c no_stream_field g n))
      groups o {xs} c z (streams-said.too_many {gs = gs} ds g p f) = no_streams (NoStreams.too_many (record { xs = xs; gs = gs; utf8 = o; lines = c; groups = g; say = p }) f)

      lines : Octets (part s x.start x.len) → (l : Lines) → LinesAnswer stream_fields (up_to s x) x.start l → StreamAnswer s x (groups_for (up_to s x) x.start (verdict_in l))
      lines o (whole m xs) (a_section c k) = groups o c (streams.groups_in (over (streams.with_group (up_to s x) x.start) streams.no_streams (rows_at (up_to s x) x.start))) (streams-said.streams_sound upto_bytes x.start c)
      lines o (faulty r) (no_section n) = no_streams (NoStreams.wrong (Wrong.lines o n))

      go : (v : Result ⊤ Refusal) → Utf8Answer s x v → StreamAnswer s x (streams_for (up_to s x) x.start v)
      go (Ok _) (characters o) = lines o (lines_at stream_fields (up_to s x) x.start) (lines_sound stream_fields stream_room upto_bytes x.start start_in)
      go (Err r) (first_bad q f) = no_streams (NoStreams.wrong (Wrong.utf8 f))

  -- ---- [POSITION]

  pub position_part : PositionAnswer s x (positions_of s x)
  unfolding positions_of
  position_part = go (utf8_of s x) (utf8_sound s x)
    where
      groups : Octets (part s x.start x.len) → {xs : List Entry} → Section position_fields (up_to s x) x.start xs → ¬ Missing position_fields xs → (pdf tree : Range) → record_of.SaysDurations xs pdf tree → (d : Durations)
          → d.pdf ≡ range_of pdf → d.tree ≡ range_of tree → (z : positions-read.GroupsRead) → positions-said.PositionsAnswer (up_to s x) xs z → PositionAnswer s x (position_groups d z.verdict z.positions)
      groups o {xs} c m pdf tree y d a b z (positions-said.positions_say {gs = gs} ds g p f e n) =
          position_text pdf tree ds (record { xs = xs; gs = gs; utf8 = o; lines = c; durations = y; groups = g; say = p }) f a b e n
      groups o {xs} c m pdf tree y d a b z (positions-said.group_wrong {q = q} g n) = no_positions q (NoPositions.wrong (Wrong.groups o c m g n))
      groups o {xs} c m pdf tree y d a b z (positions-said.too_many {gs = gs} ds g p f) =
          no_positions refusal.Limit (NoPositions.too_many (record { xs = xs; gs = gs; utf8 = o; lines = c; durations = y; groups = g; say = p }) f)

      lines : Octets (part s x.start x.len) → (z : Result Durations Refusal) → DurationsAnswer (up_to s x) x.start z → PositionAnswer s x (after_durations (up_to s x) x.start z)
      lines o z (durations_say {pdf = pdf} {tree = tree} {d = d} c y m a b) =
          groups o c m pdf tree y d a b (groups_read (up_to s x) x.start) (positions-said.positions_sound upto_bytes x.start c)
      lines o z (lines_wrong {r = r} n) = no_positions r (NoPositions.wrong (Wrong.lines o n))
      lines o z (field_missing c m) = no_positions refusal.Field (NoPositions.wrong (Wrong.missing o c m))

      go : (v : Result ⊤ Refusal) → Utf8Answer s x v → PositionAnswer s x (positions_for (up_to s x) x.start v)
      go (Ok _) (characters o) = lines o (durations_in (lines_at position_fields (up_to s x) x.start)) (durations_sound upto_bytes x.start start_in)
      go (Err r) (first_bad q f) = no_positions (refusal.Utf8 (x.start + q)) (NoPositions.wrong (Wrong.utf8 f))
