-- A record that keeps its limits is what its structs say: nothing of it is lost in them.
use mathlib.Core.Path.{◌≡◌, refl, ap₂}
use mathlib.Core.Bool.{cond}
use mathlib.Core.List.{List, [], ◌∷◌, map}
use mathlib.Core.Option.{Option, some, none}
use Prim.Native.Nat.{ℕ, zero, suc, ◌≤◌}
use native.Mathlib.Omega.{arith}
use lib.ListN.{length, take}
use Rattle.written.specs.Bytes as written
use Rattle.written.specs.HeaderText as says
use Rattle.written.specs.Record.{All, next, GlobalFits, StreamsFit, PositionsFit}
use Rattle.written.specs.Record as record_of
use Rattle.head_record.specs.Empty.{no_span, no_range, empty_stream, empty_position}
use Rattle.head_record.specs.Lists.{filled, span_of, range_of}
use Rattle.head_record.specs.Record.{there, span_or, range_or, global_record, stream_record, position_record, header_record}
use Rattle.shown_groups.specs.Said.{span_said}
use Rattle.shown_open.specs.Said.{range_said, global_said, stream_said, position_said, header_said}

-- ---- a list in an array that is long enough

module _ {A B : Type 0} (f : A → B) (g : B → A) (d : B) (P : A → Type 0) (back : (a : A) → P a → g (f a) ≡ a) where
  list_back : (n : ℕ) (l : List A) → length l ≤ n → All P l → map g (take (length l) (filled n d (map f l))) ≡ l
  unfolding filled
  list_back zero [] h p = refl
  list_back zero (a ∷ l) h p = absurd (omega arith)
  list_back (suc n) [] h p = refl
  list_back (suc n) (a ∷ l) h (next q p) = ap₂ ◌∷◌ (back a q) (list_back n l (omega arith) p)

any : {A : Type 0} (l : List A) → All (λ (a : A). Unit {0}) l
any [] = All.end
any (a ∷ l) = next tt (any l)

spans_back : (n : ℕ) (l : List written.Span) → length l ≤ n → map span_said (take (length l) (filled n no_span (map span_of l))) ≡ l
spans_back n l h = list_back span_of span_said no_span (λ (a : written.Span). Unit {0}) (λ a p. refl) n l h (any l)

ranges_back : (n : ℕ) (l : List says.Range) → length l ≤ n → map range_said (take (length l) (filled n no_range (map range_of l))) ≡ l
ranges_back n l h = list_back range_of range_said no_range (λ (a : says.Range). Unit {0}) (λ a p. refl) n l h (any l)

span_back : (o : Option written.Span) → cond (there o) (some (span_said (span_or o))) none ≡ o
span_back none = refl
span_back (some x) = refl

range_back : (o : Option says.Range) → cond (there o) (some (range_said (range_or o))) none ≡ o
range_back none = refl
range_back (some x) = refl

-- ---- the record

global_back : (g : record_of.Global) → GlobalFits g → global_said (global_record g) ≡ g
unfolding global_said global_record
global_back g h =
    let a = spans_back 8 g.stream_type h.names in
    let b = spans_back 32 g.gv_off_context h.contexts in
    let c = span_back g.comment in
    λ i. record { hts_voice_version = g.hts_voice_version; sampling_frequency = g.sampling_frequency; frame_period = g.frame_period; num_states = g.num_states; num_streams = g.num_streams; stream_type = a i; fullcontext_format = g.fullcontext_format; fullcontext_version = g.fullcontext_version; gv_off_context = b i; comment = c i }

stream_back : (d : record_of.Stream) → length d.option ≤ 16 → stream_said (stream_record d) ≡ d
unfolding stream_said stream_record
stream_back d h =
    let a = spans_back 16 d.option h in
    λ i. record { name = d.name; vector_length = d.vector_length; num_windows = d.num_windows; is_msd = d.is_msd; use_gv = d.use_gv; option = a i }

position_back : (d : record_of.Position) → length d.stream_win ≤ 8 → position_said (position_record d) ≡ d
unfolding position_said position_record
position_back d h =
    let a = ranges_back 8 d.stream_win h in
    let b = range_back d.gv_pdf in
    let c = range_back d.gv_tree in
    λ i. record { name = d.name; stream_win = a i; stream_pdf = d.stream_pdf; stream_tree = d.stream_tree; gv_pdf = b i; gv_tree = c i }

pub header_back : (h : record_of.Header) → GlobalFits h.global → StreamsFit h.streams → PositionsFit h.positions → header_said (header_record h) ≡ h
unfolding header_said header_record
header_back h g t p =
    let a = global_back h.global g in
    let b = list_back stream_record stream_said empty_stream (λ (d : record_of.Stream). length d.option ≤ 16) stream_back 8 h.streams t.names t.options in
    let c = list_back position_record position_said empty_position (λ (d : record_of.Position). length d.stream_win ≤ 8) position_back 8 h.positions p.names p.windows in
    λ i. record { global = a i; streams = b i; duration_pdf = h.duration_pdf; duration_tree = h.duration_tree; positions = c i; datum = h.datum }
