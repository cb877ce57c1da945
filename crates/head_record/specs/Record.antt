-- How the record that a file says (`written`) stands in the structs: lists in arrays as long as their limits, what is absent as zero and a mark.
--
use Rattle.std.specs.Prelude.{Bool, true, false, map, length}
use Rattle.std.proofs.Math.Option.{Option, some, none}
use Rattle.written.specs.Bytes as written
use Rattle.written.specs.HeaderText as says
use Rattle.written.specs.Record as record_of
use Rattle.head_record.specs.Empty.{no_span, no_range, empty_stream, empty_position}
use Rattle.head_record.specs.Lists.{filled, span_of, range_of}
use Rattle.text_parts.specs.declared.Span.{Span}
use Rattle.head_record.specs.declared.Range.{Range}
use Rattle.head_record.specs.declared.Global.{Global}
use Rattle.head_record.specs.declared.StreamData.{StreamData}
use Rattle.head_record.specs.declared.PositionData.{PositionData}
use Rattle.head_record.specs.declared.Header.{Header}

abbrev pub there : {A : Type 0} → Option A → Bool
there none = false
there (some a) = true

abbrev pub span_or : Option written.Span → Span
span_or none = no_span
span_or (some x) = span_of x

abbrev pub range_or : Option says.Range → Range
range_or none = no_range
range_or (some r) = range_of r

unfoldable pub global_record : record_of.Global → Global
global_record g =
    record {
      hts_voice_version = span_of g.hts_voice_version;
      sampling_frequency = g.sampling_frequency;
      frame_period = g.frame_period;
      num_states = g.num_states;
      num_streams = g.num_streams;
      stream_type = filled 8 no_span (map span_of g.stream_type);
      stream_type_count = length g.stream_type;
      fullcontext_format = span_of g.fullcontext_format;
      fullcontext_version = span_of g.fullcontext_version;
      gv_off_context = filled 32 no_span (map span_of g.gv_off_context);
      gv_off_context_count = length g.gv_off_context;
      comment = span_or g.comment;
      has_comment = there g.comment;
    }

unfoldable pub stream_record : record_of.Stream → StreamData
stream_record d =
    record {
      name = span_of d.name;
      vector_length = d.vector_length;
      num_windows = d.num_windows;
      is_msd = d.is_msd;
      use_gv = d.use_gv;
      option = filled 16 no_span (map span_of d.option);
      option_count = length d.option;
    }

unfoldable pub position_record : record_of.Position → PositionData
position_record d =
    record {
      name = span_of d.name;
      stream_win = filled 8 no_range (map range_of d.stream_win);
      stream_win_count = length d.stream_win;
      stream_pdf = range_of d.stream_pdf;
      stream_tree = range_of d.stream_tree;
      gv_pdf = range_or d.gv_pdf;
      has_gv_pdf = there d.gv_pdf;
      gv_tree = range_or d.gv_tree;
      has_gv_tree = there d.gv_tree;
    }

unfoldable pub header_record : record_of.Header → Header
header_record h =
    record {
      global = global_record h.global;
      streams = filled 8 empty_stream (map stream_record h.streams);
      stream_count = length h.streams;
      duration_pdf = range_of h.duration_pdf;
      duration_tree = range_of h.duration_tree;
      positions = filled 8 empty_position (map position_record h.positions);
      position_count = length h.positions;
      data_start = h.datum.start;
      data_len = h.datum.len;
    }
