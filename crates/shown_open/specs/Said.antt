-- What the structs of an opened file say, in the words of `written`: of an array the first places, as many as its count has; what is not marked as there is
-- absent.
use Rattle.std.specs.Prelude.{cond, map, take}
use Rattle.std.proofs.Math.Option.{some, none}
use Rattle.written.specs.HeaderText as says
use Rattle.written.specs.Record as record_of
use Rattle.head_record.specs.declared.Range.{Range}
use Rattle.head_record.specs.declared.Global.{Global}
use Rattle.head_record.specs.declared.StreamData.{StreamData}
use Rattle.head_record.specs.declared.PositionData.{PositionData}
use Rattle.head_record.specs.declared.Header.{Header}
use Rattle.shown_groups.specs.Said.{span_said}

abbrev pub range_said : Range → says.Range
range_said x = record { from = x.from; to = x.to }

unfoldable pub global_said : Global → record_of.Global
global_said g =
    record {
      hts_voice_version = span_said g.hts_voice_version;
      sampling_frequency = g.sampling_frequency;
      frame_period = g.frame_period;
      num_states = g.num_states;
      num_streams = g.num_streams;
      stream_type = map span_said (take g.stream_type_count g.stream_type);
      fullcontext_format = span_said g.fullcontext_format;
      fullcontext_version = span_said g.fullcontext_version;
      gv_off_context = map span_said (take g.gv_off_context_count g.gv_off_context);
      comment = cond g.has_comment (some (span_said g.comment)) none;
    }

unfoldable pub stream_said : StreamData → record_of.Stream
stream_said d =
    record {
      name = span_said d.name;
      vector_length = d.vector_length;
      num_windows = d.num_windows;
      is_msd = d.is_msd;
      use_gv = d.use_gv;
      option = map span_said (take d.option_count d.option);
    }

unfoldable pub position_said : PositionData → record_of.Position
position_said d =
    record {
      name = span_said d.name;
      stream_win = map range_said (take d.stream_win_count d.stream_win);
      stream_pdf = range_said d.stream_pdf;
      stream_tree = range_said d.stream_tree;
      gv_pdf = cond d.has_gv_pdf (some (range_said d.gv_pdf)) none;
      gv_tree = cond d.has_gv_tree (some (range_said d.gv_tree)) none;
    }

unfoldable pub header_said : Header → record_of.Header
header_said h =
    record {
      global = global_said h.global;
      streams = map stream_said (take h.stream_count h.streams);
      duration_pdf = range_said h.duration_pdf;
      duration_tree = range_said h.duration_tree;
      positions = map position_said (take h.position_count h.positions);
      datum = record { start = h.data_start; len = h.data_len };
    }
