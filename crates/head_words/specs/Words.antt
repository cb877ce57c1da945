-- The header record as a row of words (host/larsavim.h, 'The record'): a number, a count and a flag take one word, a string its start and its length, a range its
-- first and its last byte, a list as many items as its limit is. `headerWords` are the words of a record, `header_at` the record of any words; beyond their end
-- words are 0.
use Rattle.std.specs.Prelude.{◌≡◌, Bool, true, false, not, ◌&&◌, List, [], ◌∷◌, ◌++◌, ℕ, zero, suc, ◌+◌, ◌*◌, ◌<◌, leb, eqb, get_or}
use Rattle.laws.specs.Every.{all}
use Rattle.head_record.specs.Empty.{span, range, no_span, no_range}
use Rattle.head_record_fits.specs.Fits.{no_stream_data, no_position_data}
use Rattle.text_parts.specs.declared.Span.{Span}
use Rattle.head_record.specs.declared.Range.{Range}
use Rattle.head_record.specs.declared.Global.{Global}
use Rattle.head_record.specs.declared.StreamData.{StreamData}
use Rattle.head_record.specs.declared.PositionData.{PositionData}
use Rattle.head_record.specs.declared.Header.{Header}

-- f at k and the n - 1 numbers after it
unfoldable pub run : {A : Type 0} → (ℕ → A) → ℕ → ℕ → List A
run f k zero = []
run f k (suc n) = f k ∷ run f (suc k) n

-- the same of lists, one behind the other
unfoldable pub flat : (ℕ → List ℕ) → ℕ → ℕ → List ℕ
flat g k zero = []
flat g k (suc n) = g k ++ flat g (suc k) n

-- ---- the words of a record

abbrev pub flag_word : Bool → ℕ
flag_word true = 1
flag_word false = 0

abbrev pub span_words : Span → List ℕ
span_words x = x.start ∷ x.len ∷ []

abbrev pub range_words : Range → List ℕ
range_words x = x.from ∷ x.to ∷ []

-- the first n strings of a list, and ranges
abbrev pub spans_words : ℕ → List Span → List ℕ
spans_words n l = flat (λ k. span_words (get_or l k no_span)) 0 n

abbrev pub ranges_words : ℕ → List Range → List ℕ
ranges_words n l = flat (λ k. range_words (get_or l k no_range)) 0 n

unfoldable pub global_words : Global → List ℕ
global_words g =
    g.hts_voice_version.start ∷ g.hts_voice_version.len ∷ g.sampling_frequency ∷ g.frame_period ∷ g.num_states ∷ g.num_streams
    ∷ (spans_words 8 g.stream_type
    ++ (g.stream_type_count ∷ g.fullcontext_format.start ∷ g.fullcontext_format.len ∷ g.fullcontext_version.start ∷ g.fullcontext_version.len
    ∷ (spans_words 32 g.gv_off_context
    ++ (g.gv_off_context_count ∷ g.comment.start ∷ g.comment.len ∷ flag_word g.has_comment ∷ []))))

unfoldable pub stream_words : StreamData → List ℕ
stream_words d =
    d.name.start ∷ d.name.len ∷ d.vector_length ∷ d.num_windows ∷ flag_word d.is_msd ∷ flag_word d.use_gv
    ∷ (spans_words 16 d.option ++ (d.option_count ∷ []))

unfoldable pub position_words : PositionData → List ℕ
position_words d =
    d.name.start ∷ d.name.len
    ∷ (ranges_words 8 d.stream_win
    ++ (d.stream_win_count ∷ d.stream_pdf.from ∷ d.stream_pdf.to ∷ d.stream_tree.from ∷ d.stream_tree.to
    ∷ d.gv_pdf.from ∷ d.gv_pdf.to ∷ flag_word d.has_gv_pdf ∷ d.gv_tree.from ∷ d.gv_tree.to ∷ flag_word d.has_gv_tree ∷ []))

abbrev pub streams_words : List StreamData → List ℕ
streams_words l = flat (λ k. stream_words (get_or l k no_stream_data)) 0 8

abbrev pub positions_words : List PositionData → List ℕ
positions_words l = flat (λ k. position_words (get_or l k no_position_data)) 0 8

unfoldable pub header_words : Header → List ℕ
header_words h =
    global_words h.global
    ++ (streams_words h.streams
    ++ (h.stream_count ∷ h.duration_pdf.from ∷ h.duration_pdf.to ∷ h.duration_tree.from ∷ h.duration_tree.to
    ∷ (positions_words h.positions ++ (h.position_count ∷ h.data_start ∷ h.data_len ∷ []))))

-- ---- the record of words

abbrev pub word_at : List ℕ → ℕ → ℕ
word_at w i = get_or w i 0

-- any word but 0 is yes; `flagsFit` says which words are flags
abbrev pub flag_at : List ℕ → ℕ → Bool
flag_at w i = not (eqb (word_at w i) 0)

abbrev pub span_at : List ℕ → ℕ → Span
span_at w i = span (word_at w i) (word_at w (i + 1))

abbrev pub range_at : List ℕ → ℕ → Range
range_at w i = range (word_at w i) (word_at w (i + 1))

abbrev pub spans_at : ℕ → List ℕ → ℕ → List Span
spans_at n w i = run (λ k. span_at w (i + 2 * k)) 0 n

abbrev pub ranges_at : ℕ → List ℕ → ℕ → List Range
ranges_at n w i = run (λ k. range_at w (i + 2 * k)) 0 n

unfoldable pub global_at : List ℕ → ℕ → Global
global_at w i =
    record {
      hts_voice_version = span_at w i;
      sampling_frequency = word_at w (i + 2);
      frame_period = word_at w (i + 3);
      num_states = word_at w (i + 4);
      num_streams = word_at w (i + 5);
      stream_type = spans_at 8 w (i + 6);
      stream_type_count = word_at w (i + 22);
      fullcontext_format = span_at w (i + 23);
      fullcontext_version = span_at w (i + 25);
      gv_off_context = spans_at 32 w (i + 27);
      gv_off_context_count = word_at w (i + 91);
      comment = span_at w (i + 92);
      has_comment = flag_at w (i + 94);
    }

unfoldable pub stream_at : List ℕ → ℕ → StreamData
stream_at w i =
    record {
      name = span_at w i;
      vector_length = word_at w (i + 2);
      num_windows = word_at w (i + 3);
      is_msd = flag_at w (i + 4);
      use_gv = flag_at w (i + 5);
      option = spans_at 16 w (i + 6);
      option_count = word_at w (i + 38);
    }

unfoldable pub position_at : List ℕ → ℕ → PositionData
position_at w i =
    record {
      name = span_at w i;
      stream_win = ranges_at 8 w (i + 2);
      stream_win_count = word_at w (i + 18);
      stream_pdf = range_at w (i + 19);
      stream_tree = range_at w (i + 21);
      gv_pdf = range_at w (i + 23);
      has_gv_pdf = flag_at w (i + 25);
      gv_tree = range_at w (i + 26);
      has_gv_tree = flag_at w (i + 28);
    }

abbrev pub streams_at : List ℕ → ℕ → List StreamData
streams_at w i = run (λ k. stream_at w (i + 39 * k)) 0 8

abbrev pub positions_at : List ℕ → ℕ → List PositionData
positions_at w i = run (λ k. position_at w (i + 29 * k)) 0 8

unfoldable pub header_at : List ℕ → Header
header_at w =
    record {
      global = global_at w 0;
      streams = streams_at w 95;
      stream_count = word_at w 407;
      duration_pdf = range_at w 408;
      duration_tree = range_at w 410;
      positions = positions_at w 412;
      position_count = word_at w 644;
      data_start = word_at w 645;
      data_len = word_at w 646;
    }

-- n words from i on are 0
pub record Zeros (w : List ℕ) (i n : ℕ) : Type 0 where
  pub each : (k : ℕ) → k < n → word_at w (i + k) ≡ 0

-- ---- the flags, 0 or 1 each

abbrev pub is_flag : ℕ → Bool
is_flag x = leb x 1

-- of group i in [STREAM], and in [POSITION]
unfoldable pub group_flags : List ℕ → ℕ → Bool
group_flags w i =
    is_flag (word_at w (95 + 39 * i + 4)) && (is_flag (word_at w (95 + 39 * i + 5)) && (is_flag (word_at w (412 + 29 * i + 25)) && is_flag (word_at w (412 + 29 * i + 28))))

unfoldable pub flags_fit : List ℕ → Bool
flags_fit w = is_flag (word_at w 94) && all (group_flags w) 0 8
