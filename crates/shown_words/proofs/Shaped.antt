-- The arrays of a record that a file says are as long as their limits; so its words are read back as it, with nothing asked.
use mathlib.Core.Path.{◌≡◌, refl}
use mathlib.Core.List.{List, [], ◌∷◌, map}
use Prim.Native.Nat.{ℕ, zero, suc, ◌≤◌, ◌<◌}
use native.Mathlib.Omega.{arith}
use lib.ListN.{length, get_or}
use lib.Seq.{sets}
use Rattle.written.specs.Record as record_of
use Rattle.head_record.specs.Empty.{no_span, no_range, empty_stream, empty_position}
use Rattle.head_record.specs.Lists.{filled, span_of, range_of}
use Rattle.head_record.specs.Record.{global_record, stream_record, position_record, header_record}
use Rattle.head_record_fits.specs.Fits.{no_stream_data, no_position_data}
use Rattle.head_words.specs.Words.{header_words, header_at}
use Rattle.shown_words.proofs.Back.{ShapedStream, ShapedPosition, Shaped, read_written}

pub filled-length : {A : Type 0} (n : ℕ) (d : A) (l : List A) → length (filled n d l) ≡ n
unfolding filled
filled-length zero d l = refl
filled-length (suc n) d [] = omega (arith, filled-length n d [])
filled-length (suc n) d (a ∷ l) = omega (arith, filled-length n d l)

module _ {A B : Type 0} (P : B → Type 0) (f : A → B) (d e : B) (p : P d) (q : (a : A) → P (f a)) where
  filled_each : (n : ℕ) (l : List A) (k : ℕ) → k < n → P (get_or (filled n d (map f l)) k e)
  unfolding filled
  filled_each zero l k h = absurd (omega arith)
  filled_each (suc n) [] zero h = p
  filled_each (suc n) [] (suc k) h = filled_each n [] k (omega arith)
  filled_each (suc n) (a ∷ l) zero h = q a
  filled_each (suc n) (a ∷ l) (suc k) h = filled_each n l k (omega arith)

stream_shaped : (d : record_of.Stream) → ShapedStream (stream_record d)
unfolding stream_record
stream_shaped d = record { options = filled-length 16 no_span (map span_of d.option) }

position_shaped : (d : record_of.Position) → ShapedPosition (position_record d)
unfolding position_record
position_shaped d = record { windows = filled-length 8 no_range (map range_of d.stream_win) }

empty_stream_lem : ShapedStream empty_stream
unfolding empty_stream
empty_stream_lem = record { options = refl }

empty_position_lem : ShapedPosition empty_position
unfolding empty_position
empty_position_lem = record { windows = refl }

pub record_shaped : (h : record_of.Header) → Shaped (header_record h)
unfolding header_record global_record
record_shaped h =
    record {
      types = filled-length 8 no_span (map span_of h.global.stream_type);
      contexts = filled-length 32 no_span (map span_of h.global.gv_off_context);
      streams = filled-length 8 empty_stream (map stream_record h.streams);
      each_stream = filled_each ShapedStream stream_record empty_stream no_stream_data empty_stream_lem stream_shaped 8 h.streams;
      positions = filled-length 8 empty_position (map position_record h.positions);
      each_position = filled_each ShapedPosition position_record empty_position no_position_data empty_position_lem position_shaped 8 h.positions;
    }

-- what is read from the words of a record that a file says is the record
pub record_back : (w : List ℕ) (h : record_of.Header) → 647 ≤ length w → header_at (sets w 0 (header_words (header_record h))) ≡ header_record h
record_back w h l = read_written w (header_record h) l (record_shaped h)
