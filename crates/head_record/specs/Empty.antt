-- The empty record: numbers 0, counts 0, nothing present.
use Rattle.std.specs.Prelude.{false, ℕ, replicate}
use Rattle.text_parts.specs.declared.Span.{Span}
use Rattle.head_record.specs.declared.Range.{Range}
use Rattle.head_record.specs.declared.Global.{Global}
use Rattle.head_record.specs.declared.StreamData.{StreamData}
use Rattle.head_record.specs.declared.PositionData.{PositionData}
use Rattle.head_record.specs.declared.Header.{Header}

abbrev pub span : ℕ → ℕ → Span
span start n = record { start = start; len = n }

abbrev pub range : ℕ → ℕ → Range
range a b = record { from = a; to = b }

abbrev pub no_span : Span
no_span = span 0 0

abbrev pub no_range : Range
no_range = range 0 0

unfoldable pub empty_global : Global
empty_global = record { hts_voice_version = no_span; sampling_frequency = 0; frame_period = 0; num_states = 0; num_streams = 0; stream_type = replicate 8 no_span; stream_type_count = 0; fullcontext_format = no_span; fullcontext_version = no_span; gv_off_context = replicate 32 no_span; gv_off_context_count = 0; comment = no_span; has_comment = false }

unfoldable pub empty_stream : StreamData
empty_stream = record { name = no_span; vector_length = 0; num_windows = 0; is_msd = false; use_gv = false; option = replicate 16 no_span; option_count = 0 }

unfoldable pub empty_position : PositionData
empty_position = record { name = no_span; stream_win = replicate 8 no_range; stream_win_count = 0; stream_pdf = no_range; stream_tree = no_range; gv_pdf = no_range; has_gv_pdf = false; gv_tree = no_range; has_gv_tree = false }

unfoldable pub empty_header : Header
empty_header = record { global = empty_global; streams = replicate 8 empty_stream; stream_count = 0; duration_pdf = no_range; duration_tree = no_range; positions = replicate 8 empty_position; position_count = 0; data_start = 0; data_len = 0 }
