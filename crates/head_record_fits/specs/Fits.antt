-- When a header record fits a file of n bytes (01's 16; docs/DECISIONS.md, 'The record'): the file and every count within its limit, and every string
-- that counts, and the data, inside the file. What stands past a count, an absent COMMENT and the ranges are not looked at.
use Rattle.std.specs.Prelude.{Bool, true, false, cond, ◌&&◌, List, [], ◌∷◌, ℕ, zero, suc, ◌+◌, leb}
use Rattle.written.specs.Record.{file_limit}
use Rattle.head_record.specs.Empty.{span, no_span, no_range}
use Rattle.text_parts.specs.declared.Span.{Span}
use Rattle.head_record.specs.declared.Global.{Global}
use Rattle.head_record.specs.declared.StreamData.{StreamData}
use Rattle.head_record.specs.declared.PositionData.{PositionData}
use Rattle.head_record.specs.declared.Header.{Header}

module _ {A : Type 0} where
  -- p is true of each of the first k
  unfoldable pub each : (A → Bool) → ℕ → List A → Bool
  each p zero l = true
  each p (suc k) [] = true
  each p (suc k) (x ∷ l) = p x && each p k l

  -- the count k is within its limit, and p is true of each item that counts
  unfoldable pub counted : ℕ → (A → Bool) → ℕ → List A → Bool
  counted limit p k l = leb k limit && each p k l

unfoldable pub span_fits : ℕ → Span → Bool
span_fits n x = leb (x.start + x.len) n

unfoldable pub global_fits : ℕ → Global → Bool
global_fits n g =
    span_fits n g.hts_voice_version
    && span_fits n g.fullcontext_format
    && span_fits n g.fullcontext_version
    && counted 8 (span_fits n) g.stream_type_count g.stream_type
    && counted 32 (span_fits n) g.gv_off_context_count g.gv_off_context
    && cond g.has_comment (span_fits n g.comment) true

unfoldable pub stream_fits : ℕ → StreamData → Bool
stream_fits n d = span_fits n d.name && counted 16 (span_fits n) d.option_count d.option

unfoldable pub position_fits : ℕ → PositionData → Bool
position_fits n d = span_fits n d.name && leb d.stream_win_count 8

unfoldable pub record_fits : ℕ → Header → Bool
record_fits n h =
    leb n file_limit
    && span_fits n (span h.data_start h.data_len)
    && global_fits n h.global
    && counted 8 (stream_fits n) h.stream_count h.streams
    && counted 8 (position_fits n) h.position_count h.positions

-- ---- what stands outside an array of entries

abbrev pub no_stream_data : StreamData
no_stream_data = record { name = no_span; vector_length = 0; num_windows = 0; is_msd = false; use_gv = false; option = []; option_count = 0 }

abbrev pub no_position_data : PositionData
no_position_data = record { name = no_span; stream_win = []; stream_win_count = 0; stream_pdf = no_range; stream_tree = no_range; gv_pdf = no_range; has_gv_pdf = false; gv_tree = no_range; has_gv_tree = false }
