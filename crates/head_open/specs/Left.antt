-- The words of the record behind each section, w before it: what the section says; where it is refused, what it says before the fault.
use Rattle.std.specs.Prelude.{cond, List, [], ◌∷◌, ℕ, ltb, length, Option, Some, None, Result, Ok, Err, ⊤}
use Rattle.std.proofs.lemmas.List.Edits.{sets}
use Rattle.written.specs.Record.{global_fields, stream_fields, position_fields, file_limit}
use Rattle.error.specs.declared.Refusal.{Refusal}
use Rattle.head_record.specs.Empty.{empty_global}
use Rattle.text_parts.specs.declared.Span.{Span}
use Rattle.head_lines.specs.Lines.{lines_at, lines_read, kept}
use Rattle.head_global.specs.Global as global
use Rattle.head_words.specs.Words.{span_words, global_words}
use Rattle.head_brackets.specs.Rows.{rows_at, over, last_of}
use Rattle.head_streams.specs.Groups as streams
use Rattle.head_positions.specs.Groups as positions
use Rattle.head_ungrouped.specs.Ungrouped.{durations_in, verdict_in}
use Rattle.head_ungrouped.specs.declared.Durations.{Durations}
use Rattle.head_sections.specs.Split.{split_of}
use Rattle.head_sections.specs.declared.Parts.{Parts}
use Rattle.head_open.specs.Open.{utf8_of, up_to, global_of, streams_of, positions_of}

-- ---- [GLOBAL]

abbrev pub global_for : List ℕ → ℕ → List ℕ → Result ⊤ Refusal → List ℕ
global_for s i w (Ok _) = sets w 0 (global_words (kept global.with_line empty_global (lines_read global_fields s i)))
global_for s i w (Err r) = w

unfoldable pub global_left : List ℕ → Span → List ℕ → List ℕ
global_left s x w = global_for (up_to s x) x.start w (utf8_of s x)

-- ---- [STREAM]

abbrev pub stream_groups : List ℕ → ℕ → List ℕ → Result ⊤ Refusal → List ℕ
stream_groups s i w (Ok _) = streams.words_in w (over (streams.with_group s i) streams.no_streams (rows_at s i)) (last_of (streams.with_group s i) streams.no_streams (rows_at s i))
stream_groups s i w (Err r) = w

abbrev pub streams_for : List ℕ → ℕ → List ℕ → Result ⊤ Refusal → List ℕ
streams_for s i w (Ok _) = stream_groups s i w (verdict_in (lines_at stream_fields s i))
streams_for s i w (Err r) = w

unfoldable pub streams_left : List ℕ → Span → List ℕ → List ℕ
streams_left s x w = streams_for (up_to s x) x.start w (utf8_of s x)

-- ---- [POSITION]

-- with the duration ranges
abbrev pub durations_laid : List ℕ → Durations → List ℕ
durations_laid w d = sets w 408 (d.pdf.from ∷ d.pdf.to ∷ d.tree.from ∷ d.tree.to ∷ [])

abbrev pub position_groups : List ℕ → ℕ → List ℕ → Result Durations Refusal → List ℕ
position_groups s i w (Ok d) =
    positions.words_in (durations_laid w d) (over (positions.with_group s i) positions.no_positions (rows_at s i)) (last_of (positions.with_group s i) positions.no_positions (rows_at s i))
position_groups s i w (Err r) = w

abbrev pub positions_for : List ℕ → ℕ → List ℕ → Result ⊤ Refusal → List ℕ
positions_for s i w (Ok _) = position_groups s i w (durations_in (lines_at position_fields s i))
positions_for s i w (Err r) = w

unfoldable pub positions_left : List ℕ → Span → List ℕ → List ℕ
positions_left s x w = positions_for (up_to s x) x.start w (utf8_of s x)

-- ---- a file

-- behind [POSITION], with where the data stands
abbrev pub behind_positions : Parts → List ℕ → Result ⊤ Refusal → List ℕ
behind_positions x w (Ok _) = sets w 645 (span_words x.rest)
behind_positions x w (Err r) = w

abbrev pub behind_streams : List ℕ → Parts → List ℕ → Result ⊤ Refusal → List ℕ
behind_streams s x w (Ok _) = behind_positions x (positions_left s x.position w) (positions_of s x.position).verdict
behind_streams s x w (Err r) = w

abbrev pub behind_global : List ℕ → Parts → List ℕ → Result ⊤ Refusal → List ℕ
behind_global s x w (Ok _) = behind_streams s x (streams_left s x.stream w) (streams_of s x.stream).verdict
behind_global s x w (Err r) = w

unfoldable pub parts_left : List ℕ → Parts → List ℕ → List ℕ
parts_left s x w = behind_global s x (global_left s x.global w) (global_of s x.global).verdict

abbrev pub split_left : List ℕ → List ℕ → Option Parts → List ℕ
split_left s w None = w
split_left s w (Some x) = parts_left s x w

unfoldable pub open_left : List ℕ → List ℕ → List ℕ
open_left s w = cond (ltb file_limit (length s)) w (split_left s w (split_of s))
