-- How many words each part of the record has.
use mathlib.Core.Path.{◌≡◌, refl}
use mathlib.Core.List.{List, [], ◌∷◌, ◌++◌}
use Prim.Native.Nat.{ℕ, ◌*◌}
use native.Mathlib.Omega.{arith}
use lib.ListN.{length, get_or, length-append}
use Rattle.head_record.specs.Empty.{no_span, no_range}
use Rattle.head_record_fits.specs.Fits.{no_stream_data, no_position_data}
use Rattle.text_parts.specs.declared.Span.{Span}
use Rattle.head_record.specs.declared.Range.{Range}
use Rattle.head_record.specs.declared.Global.{Global}
use Rattle.head_record.specs.declared.StreamData.{StreamData}
use Rattle.head_record.specs.declared.PositionData.{PositionData}
use Rattle.head_record.specs.declared.Header.{Header}
use Rattle.head_words.specs.Words.{flat, span_words, range_words, spans_words, ranges_words, global_words, stream_words, position_words, streams_words, positions_words, header_words}
use Rattle.head_words.proofs.Items.{length-flat}

pub length_spans : (n : ℕ) (l : List Span) → length (spans_words n l) ≡ 2 * n
length_spans n l = length-flat (λ k. span_words (get_or l k no_span)) 2 (λ j. refl) 0 n

pub length_ranges : (n : ℕ) (l : List Range) → length (ranges_words n l) ≡ 2 * n
length_ranges n l = length-flat (λ k. range_words (get_or l k no_range)) 2 (λ j. refl) 0 n

pub length_global : (g : Global) → length (global_words g) ≡ 95
unfolding global_words flat
length_global g = refl

pub length_stream : (d : StreamData) → length (stream_words d) ≡ 39
unfolding stream_words flat
length_stream d = refl

pub length_position : (d : PositionData) → length (position_words d) ≡ 29
unfolding position_words flat
length_position d = refl

pub length_streams : (l : List StreamData) → length (streams_words l) ≡ 312
length_streams l = length-flat (λ k. stream_words (get_or l k no_stream_data)) 39 (λ j. length_stream (get_or l j no_stream_data)) 0 8

pub length_positions : (l : List PositionData) → length (positions_words l) ≡ 232
length_positions l = length-flat (λ k. position_words (get_or l k no_position_data)) 29 (λ j. length_position (get_or l j no_position_data)) 0 8

pub length_header : (h : Header) → length (header_words h) ≡ 647
unfolding header_words
length_header h =
    let c : List ℕ = h.position_count ∷ h.data_start ∷ h.data_len ∷ [] in
    let b : List ℕ = h.stream_count ∷ h.duration_pdf.from ∷ h.duration_pdf.to ∷ h.duration_tree.from ∷ h.duration_tree.to ∷ (positions_words h.positions ++ c) in
    omega (
      arith,
      length-append (global_words h.global) (streams_words h.streams ++ b),
      length_global h.global,
      length-append (streams_words h.streams) b,
      length_streams h.streams,
      length-append (positions_words h.positions) c,
      length_positions h.positions,
    )
