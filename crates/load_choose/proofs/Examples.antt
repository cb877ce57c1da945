-- Answers at the edges, by computation: ranges, widths, and groups that are named twice.
use mathlib.Core.Path.{◌≡◌, refl}
use mathlib.Core.Bool.{Bool, true, false}
use mathlib.Core.List.{List, [], ◌∷◌}
use Prim.Native.Nat.{ℕ, ◌+◌}
use Rattle.written.specs.Bytes.{same, bytes}
use Rattle.error.specs.declared.Refusal.TheVariants as refusal
use Rattle.head_record.specs.Empty.{span, range, no_span, no_range, empty_stream, empty_position}
use Rattle.text_parts.specs.declared.Span.{Span}
use Rattle.head_record.specs.declared.Global.{Global}
use Rattle.head_record.specs.declared.StreamData.{StreamData}
use Rattle.head_record.specs.declared.PositionData.{PositionData}
use Rattle.head_record.specs.declared.Header.{Header}
use Rattle.head_record.specs.Lists.{filled}
use Rattle.head_record_fits.specs.Fits.{each, counted, span_fits, global_fits, stream_fits, position_fits, record_fits}
use Rattle.link_search.specs.Found.{last_below}
use Rattle.load_choose.specs.Chosen.{chosen, model_of, stream_model, gv_model, named, numbered, chosen_of}
use Rattle.load_range.specs.Ranges.{bounds, within_of}
use Rattle.load_choose.specs.declared.Which.TheVariants.{Duration, Stream, Gv}
use Rattle.std.specs.Prelude.{Err, None}

-- ---- ranges: 5-5 is one byte, 5-4 is none

one_byte : within_of 5 5 6 ≡ bounds 5 6
unfolding within_of
one_byte = refl

no_byte : within_of 5 4 5 ≡ bounds 5 5
unfolding within_of
no_byte = refl

backwards : within_of 5 3 6 ≡ None
unfolding within_of
backwards = refl

past_the_end : within_of 5 6 6 ≡ None
unfolding within_of
past_the_end = refl

greatest_end : within_of 0 18446744073709551615 18446744073709551615 ≡ None
unfolding within_of
greatest_end = refl

-- ---- widths

abbrev stream : Span → ℕ → ℕ → Bool → StreamData
stream x v w m = record { name = x; vector_length = v; num_windows = w; is_msd = m; use_gv = true; option = []; option_count = 0 }

abbrev position : Span → ℕ → PositionData
position x a =
    record {
      name = x;
      stream_win = [];
      stream_win_count = 0;
      stream_pdf = range a (a + 1);
      stream_tree = range (a + 2) (a + 3);
      gv_pdf = range (a + 4) (a + 5);
      has_gv_pdf = true;
      gv_tree = no_range;
      has_gv_tree = false;
    }

widest : stream_model (stream no_span 2048 1 false) (position no_span 10) ≡ chosen 12 13 10 11 4096
unfolding stream_model model_of
widest = refl

one_too_wide : stream_model (stream no_span 2048 1 true) (position no_span 10) ≡ Err refusal.Limit
unfolding stream_model model_of
one_too_wide = refl

-- 2 × 2^63 × 0 + 1
no_windows : stream_model (stream no_span 9223372036854775808 0 true) (position no_span 10) ≡ chosen 12 13 10 11 1
unfolding stream_model model_of
no_windows = refl

-- 2 × 2^63 would wrap to 0
not_wrapped : stream_model (stream no_span 9223372036854775808 1 true) (position no_span 10) ≡ Err refusal.Limit
unfolding stream_model model_of
not_wrapped = refl

no_gv_tree : gv_model (stream no_span 9223372036854775808 1 true) (position no_span 10) ≡ Err refusal.UseGv
unfolding gv_model model_of
no_gv_tree = refl

-- ---- a record of the file MLM: STREAM_TYPE says M and L; two positions and two streams have the name M, none the name L

abbrev file : List ℕ
file = bytes "MLM"

abbrev global : Global
global =
    record {
      hts_voice_version = span 3 0;
      sampling_frequency = 0;
      frame_period = 0;
      num_states = 5;
      num_streams = 0;
      stream_type = filled 8 no_span (span 0 1 ∷ span 1 1 ∷ []);
      stream_type_count = 2;
      fullcontext_format = no_span;
      fullcontext_version = no_span;
      gv_off_context = filled 32 no_span [];
      gv_off_context_count = 0;
      comment = span 3 1;
      has_comment = false;
    }

-- n bytes of data from the file's first byte on
abbrev header : ℕ → Header
header n =
    record {
      global = global;
      streams = filled 8 empty_stream (stream (span 0 1) 1 1 false ∷ stream (span 2 1) 2 3 true ∷ []);
      stream_count = 2;
      duration_pdf = range 1 2;
      duration_tree = range 3 4;
      positions = filled 8 empty_position (position (span 0 1) 10 ∷ position (span 2 1) 20 ∷ []);
      position_count = 2;
      data_start = 0;
      data_len = n;
    }

last_wins : chosen_of file (header 3) (Stream 0) ≡ chosen 22 23 20 21 13
unfolding chosen_of numbered named last_below same stream_model model_of record_fits global_fits stream_fits position_fits span_fits counted each filled bytes
last_wins = refl

no_entry : chosen_of file (header 3) (Stream 1) ≡ Err refusal.NoPosition
unfolding chosen_of numbered named last_below same stream_model model_of record_fits global_fits stream_fits position_fits span_fits counted each filled bytes
no_entry = refl

no_number : chosen_of file (header 3) (Gv 2) ≡ Err refusal.NoPosition
unfolding chosen_of numbered named last_below same stream_model model_of record_fits global_fits stream_fits position_fits span_fits counted each filled bytes
no_number = refl

gv_refused : chosen_of file (header 3) (Gv 0) ≡ Err refusal.UseGv
unfolding chosen_of numbered named last_below same gv_model model_of record_fits global_fits stream_fits position_fits span_fits counted each filled bytes
gv_refused = refl

duration : chosen_of file (header 3) Duration ≡ chosen 3 4 1 2 10
unfolding chosen_of model_of record_fits global_fits stream_fits position_fits span_fits counted each filled bytes
duration = refl

-- the data end past the file
unfit : chosen_of file (header 4) Duration ≡ Err refusal.Range
unfolding chosen_of model_of record_fits global_fits stream_fits position_fits span_fits counted each filled bytes
unfit = refl
