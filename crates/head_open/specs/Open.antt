-- What opening a file answers, and which text COMMENT is.
use Rattle.std.specs.Prelude.{Bool, cond, List, ℕ, ◌+◌, ◌-◌, ◌≤◌, ltb, length, take, Option, Some, None, Result, Ok, Err, ⊤}
use Rattle.written.specs.Bytes.{part}
use Rattle.written.specs.Record.{global_fields, stream_fields, position_fields, file_limit}
use Rattle.error.specs.declared.Refusal.{Refusal}
use Rattle.error.specs.declared.Refusal.TheVariants as refusal
use Rattle.text_utf8.specs.Check.{check_of}
use Rattle.head_record.specs.Empty.{empty_header}
use Rattle.text_parts.specs.declared.Span.{Span}
use Rattle.head_record.specs.declared.Global.{Global}
use Rattle.head_record.specs.declared.Header.{Header}
use Rattle.head_lines.specs.Lines.{lines_at}
use Rattle.head_global.specs.Global as global
use Rattle.head_global.specs.declared.GlobalRead.{GlobalRead}
use Rattle.head_brackets.specs.Rows.{rows_at, over}
use Rattle.head_streams.specs.Groups as streams
use Rattle.head_streams.specs.declared.Streams.{Streams}
use Rattle.head_streams.specs.declared.GroupsRead as streams-read
use Rattle.head_positions.specs.Groups as positions
use Rattle.head_positions.specs.declared.Positions.{Positions}
use Rattle.head_positions.specs.declared.GroupsRead as positions-read
use Rattle.head_ungrouped.specs.Ungrouped.{no_durations, durations_in, verdict_in}
use Rattle.head_ungrouped.specs.declared.Durations.{Durations}
use Rattle.head_sections.specs.Split.{split_of}
use Rattle.head_sections.specs.declared.Parts.{Parts}
use Rattle.head_open.specs.declared.Opened.{Opened}
use Rattle.head_open.specs.declared.PositionRead.{PositionRead}

-- the parts stand inside the file
pub record Inside (s : List ℕ) (p : Parts) : Type 0 where
  pub global : p.global.start + p.global.len ≤ length s
  pub stream : p.stream.start + p.stream.len ≤ length s
  pub position : p.position.start + p.position.len ≤ length s

-- ---- UTF-8 first

abbrev pub utf8_verdict : ℕ → Result Unit ℕ → Result ⊤ Refusal
utf8_verdict i (Ok tt) = Ok tt
utf8_verdict i (Err k) = Err (refusal.Utf8 (i + k))

unfoldable pub utf8_of : List ℕ → Span → Result ⊤ Refusal
utf8_of s x = utf8_verdict x.start (check_of (part s x.start x.len))

-- the text that a section is read in
abbrev pub up_to : List ℕ → Span → List ℕ
up_to s x = take (x.start + x.len) s

-- ---- the three sections

abbrev pub global_for : List ℕ → ℕ → Result ⊤ Refusal → GlobalRead
global_for s i (Ok _) = global.global_in (lines_at global_fields s i)
global_for s i (Err r) = global.refused_with r

unfoldable pub global_of : List ℕ → Span → GlobalRead
global_of s x = global_for (up_to s x) x.start (utf8_of s x)

abbrev pub no_streams_for : Refusal → streams-read.GroupsRead
no_streams_for r = streams.made (Err r) streams.no_streams

abbrev pub groups_for : List ℕ → ℕ → Result ⊤ Refusal → streams-read.GroupsRead
groups_for s i (Ok _) = streams.groups_in (over (streams.with_group s i) streams.no_streams (rows_at s i))
groups_for s i (Err r) = no_streams_for r

abbrev pub streams_for : List ℕ → ℕ → Result ⊤ Refusal → streams-read.GroupsRead
streams_for s i (Ok _) = groups_for s i (verdict_in (lines_at stream_fields s i))
streams_for s i (Err r) = no_streams_for r

unfoldable pub streams_of : List ℕ → Span → streams-read.GroupsRead
streams_of s x = streams_for (up_to s x) x.start (utf8_of s x)

abbrev pub made_position : Result ⊤ Refusal → Durations → Positions → PositionRead
made_position v d p = record { verdict = v; durations = d; positions = p }

unfoldable pub no_positions_for : Refusal → PositionRead
no_positions_for r = made_position (Err r) no_durations positions.no_positions

-- with the groups
abbrev pub position_groups : Durations → Result ⊤ Refusal → Positions → PositionRead
position_groups d (Ok _) p = made_position (Ok tt) d p
position_groups d (Err r) p = no_positions_for r

abbrev pub groups_read : List ℕ → ℕ → positions-read.GroupsRead
groups_read s i = positions.groups_in (over (positions.with_group s i) positions.no_positions (rows_at s i))

abbrev pub after_durations : List ℕ → ℕ → Result Durations Refusal → PositionRead
after_durations s i (Ok d) = position_groups d (groups_read s i).verdict (groups_read s i).positions
after_durations s i (Err r) = no_positions_for r

abbrev pub positions_for : List ℕ → ℕ → Result ⊤ Refusal → PositionRead
positions_for s i (Ok _) = after_durations s i (durations_in (lines_at position_fields s i))
positions_for s i (Err r) = no_positions_for r

unfoldable pub positions_of : List ℕ → Span → PositionRead
positions_of s x = positions_for (up_to s x) x.start (utf8_of s x)

-- ---- the record

abbrev pub made : Result ⊤ Refusal → Header → Opened
made v h = record { verdict = v; header = h }

unfoldable pub refused_with : Refusal → Opened
refused_with r = made (Err r) empty_header

abbrev pub header_of : Global → Streams → Durations → Positions → Span → Header
header_of g t d p x =
    record {
      global = g;
      streams = t.items;
      stream_count = t.names.count;
      duration_pdf = d.pdf;
      duration_tree = d.tree;
      positions = p.items;
      position_count = p.names.count;
      data_start = x.start;
      data_len = x.len;
    }

abbrev pub with_positions : Global → Streams → Span → PositionRead → Result ⊤ Refusal → Opened
with_positions g t x p (Ok _) = made (Ok tt) (header_of g t p.durations p.positions x)
with_positions g t x p (Err r) = refused_with r

abbrev pub with_streams : List ℕ → Parts → Global → Streams → Result ⊤ Refusal → Opened
with_streams s x g t (Ok _) = with_positions g t x.rest (positions_of s x.position) (positions_of s x.position).verdict
with_streams s x g t (Err r) = refused_with r

abbrev pub with_global : List ℕ → Parts → Global → Result ⊤ Refusal → Opened
with_global s x g (Ok _) = with_streams s x g (streams_of s x.stream).streams (streams_of s x.stream).verdict
with_global s x g (Err r) = refused_with r

unfoldable pub parts_of : List ℕ → Parts → Opened
parts_of s x = with_global s x (global_of s x.global).global (global_of s x.global).verdict

abbrev pub split_into : List ℕ → Option Parts → Opened
split_into s None = refused_with refusal.Split
split_into s (Some x) = parts_of s x

unfoldable pub open_of : List ℕ → Opened
open_of s = cond (ltb file_limit (length s)) (refused_with refusal.Limit) (split_into s (split_of s))

-- ---- COMMENT

-- the part of the file from i on, n bytes long; the fallback where it is missing or points past the file
unfoldable pub comment_part : List ℕ → List ℕ → Bool → ℕ → ℕ → List ℕ
comment_part s f b i n = cond b (cond (ltb (length s) i) f (cond (ltb (length s - i) n) f (part s i n))) f

abbrev pub comment_of : List ℕ → Header → List ℕ → List ℕ
comment_of s h f = comment_part s f h.global.has_comment h.global.comment.start h.global.comment.len
