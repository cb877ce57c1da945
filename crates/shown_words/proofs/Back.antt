-- The round trip: the record that is read from a record's words is the record, where its arrays are as long as their limits, which those of a Rattle value always
-- are. So what crosses to C and back is what was opened.
use mathlib.Core.Path.{◌≡◌, refl, sym, ap, ◌∙◌}
use mathlib.Core.Bool.{Bool, true, false, not}
use mathlib.Core.List.{List, [], ◌∷◌, ◌++◌}
use Prim.Native.Nat.{ℕ, ◌+◌, ◌*◌, ◌≤◌, ◌<◌}
use native.Mathlib.Omega.{arith}
use lib.Dec.{eqb}
use lib.ListN.{length, get_or}
use lib.Seq.{sets}
use Rattle.head_record.specs.Empty.{span, range, no_span, no_range}
use Rattle.head_record_fits.specs.Fits.{no_stream_data, no_position_data}
use Rattle.text_parts.specs.declared.Span.{Span}
use Rattle.head_record.specs.declared.Range.{Range}
use Rattle.head_record.specs.declared.Global.{Global}
use Rattle.head_record.specs.declared.StreamData.{StreamData}
use Rattle.head_record.specs.declared.PositionData.{PositionData}
use Rattle.head_record.specs.declared.Header.{Header}
use Rattle.laws.proofs.Tables.{sets_at}
use Rattle.laws.proofs.Every.{both, each_all}
use Rattle.head_words.specs.Words.{run, flat, flag_word, span_words, range_words, spans_words, ranges_words, global_words, stream_words, position_words, streams_words, positions_words, header_words, word_at, flag_at, span_at, range_at, spans_at, ranges_at, global_at, stream_at, position_at, streams_at, positions_at, header_at, is_flag, group_flags, flags_fit}
use Rattle.head_words.proofs.Items.{Stands, stands_left, stands_right, stands_item, run_back}
use Rattle.head_words.proofs.Lengths.{length_spans, length_global, length_stream, length_position, length_streams, length_positions, length_header}

-- ---- arrays as long as their limits

pub record ShapedStream (d : StreamData) : Type 0 where
  pub options : length d.option ≡ 16

pub record ShapedPosition (d : PositionData) : Type 0 where
  pub windows : length d.stream_win ≡ 8

pub record Shaped (h : Header) : Type 0 where
  pub types : length h.global.stream_type ≡ 8
  pub contexts : length h.global.gv_off_context ≡ 32
  pub streams : length h.streams ≡ 8
  pub each_stream : (k : ℕ) → k < 8 → ShapedStream (get_or h.streams k no_stream_data)
  pub positions : length h.positions ≡ 8
  pub each_position : (k : ℕ) → k < 8 → ShapedPosition (get_or h.positions k no_position_data)

-- ---- what is read where it stands

pub flag_back : (b : Bool) → not (eqb (flag_word b) 0) ≡ b
flag_back true = refl
flag_back false = refl

module _ (t : List ℕ) where
  -- the k-th word
  word : (i k : ℕ) (ws : List ℕ) → Stands t i ws → k < length ws → (j : ℕ) → j ≡ i + k → word_at t j ≡ get_or ws k 0
  word i k ws s h j e = ap (word_at t) e ∙ s.each k h

  -- the k-th word and the next one
  span_back : (i k : ℕ) (ws : List ℕ) → Stands t i ws → k + 1 < length ws → (x : Span) → get_or ws k 0 ≡ x.start → get_or ws (k + 1) 0 ≡ x.len → span_at t (i + k) ≡ x
  span_back i k ws s h x a b =
      let p : word_at t (i + k) ≡ x.start = word i k ws s (omega arith) (i + k) refl ∙ a in
      let q : word_at t (i + k + 1) ≡ x.len = word i (k + 1) ws s h (i + k + 1) (omega arith) ∙ b in
      λ y. span (p y) (q y)

  range_back : (i k : ℕ) (ws : List ℕ) → Stands t i ws → k + 1 < length ws → (x : Range) → get_or ws k 0 ≡ x.from → get_or ws (k + 1) 0 ≡ x.to → range_at t (i + k) ≡ x
  range_back i k ws s h x a b =
      let p : word_at t (i + k) ≡ x.from = word i k ws s (omega arith) (i + k) refl ∙ a in
      let q : word_at t (i + k + 1) ≡ x.to = word i (k + 1) ws s h (i + k + 1) (omega arith) ∙ b in
      λ y. range (p y) (q y)

  spans_back : (n i : ℕ) (l : List Span) → length l ≡ n → Stands t i (spans_words n l) → spans_at n t i ≡ l
  spans_back n i l e s =
      ap (λ (m : ℕ). run (λ k. span_at t (i + 2 * k)) 0 m) (sym e)
      ∙ run_back no_span l (λ k. span_at t (i + 2 * k)) 0 (λ k h. item k h (stands_item t (λ k. span_words (get_or l k no_span)) 2 (λ j. refl) i 0 n s k (omega arith)))
    where
      item : (k : ℕ) → k < length l → Stands t (i + 2 * k) (span_words (get_or l (0 + k) no_span)) → span_at t (i + 2 * (0 + k)) ≡ get_or l k no_span
      item k h s =
          let z : 0 + k ≡ k = omega arith in
          let a : word_at t (i + 2 * k) ≡ (get_or l k no_span).start = word (i + 2 * k) 0 (span_words (get_or l (0 + k) no_span)) s (omega arith) (i + 2 * k) (omega arith) ∙ ap (λ (m : ℕ). (get_or l m no_span).start) z in
          let b : word_at t (i + 2 * k + 1) ≡ (get_or l k no_span).len = word (i + 2 * k) 1 (span_words (get_or l (0 + k) no_span)) s (omega arith) (i + 2 * k + 1) (omega arith) ∙ ap (λ (m : ℕ). (get_or l m no_span).len) z in
          ap (λ (m : ℕ). span_at t (i + 2 * m)) z ∙ (λ y. span (a y) (b y))

  ranges_back : (n i : ℕ) (l : List Range) → length l ≡ n → Stands t i (ranges_words n l) → ranges_at n t i ≡ l
  ranges_back n i l e s =
      ap (λ (m : ℕ). run (λ k. range_at t (i + 2 * k)) 0 m) (sym e)
      ∙ run_back no_range l (λ k. range_at t (i + 2 * k)) 0 (λ k h. item k h (stands_item t (λ k. range_words (get_or l k no_range)) 2 (λ j. refl) i 0 n s k (omega arith)))
    where
      item : (k : ℕ) → k < length l → Stands t (i + 2 * k) (range_words (get_or l (0 + k) no_range)) → range_at t (i + 2 * (0 + k)) ≡ get_or l k no_range
      item k h s =
          let z : 0 + k ≡ k = omega arith in
          let a : word_at t (i + 2 * k) ≡ (get_or l k no_range).from = word (i + 2 * k) 0 (range_words (get_or l (0 + k) no_range)) s (omega arith) (i + 2 * k) (omega arith) ∙ ap (λ (m : ℕ). (get_or l m no_range).from) z in
          let b : word_at t (i + 2 * k + 1) ≡ (get_or l k no_range).to = word (i + 2 * k) 1 (range_words (get_or l (0 + k) no_range)) s (omega arith) (i + 2 * k + 1) (omega arith) ∙ ap (λ (m : ℕ). (get_or l m no_range).to) z in
          ap (λ (m : ℕ). range_at t (i + 2 * m)) z ∙ (λ y. range (a y) (b y))

  stream_back : (i : ℕ) (d : StreamData) → ShapedStream d → Stands t i (stream_words d) → stream_at t i ≡ d
  unfolding stream_words stream_at flat
  stream_back i d f s =
      let w : List ℕ = stream_words d in
      let e₀ : word_at t i ≡ d.name.start = word i 0 w s (omega arith) i (omega arith) in
      let e₁ : word_at t (i + 1) ≡ d.name.len = word i 1 w s (omega arith) (i + 1) refl in
      let e₂ : word_at t (i + 2) ≡ d.vector_length = word i 2 w s (omega arith) (i + 2) refl in
      let e₃ : word_at t (i + 3) ≡ d.num_windows = word i 3 w s (omega arith) (i + 3) refl in
      let e₄ : flag_at t (i + 4) ≡ d.is_msd = ap (λ (x : ℕ). not (eqb x 0)) (word i 4 w s (omega arith) (i + 4) refl) ∙ flag_back d.is_msd in
      let e₅ : flag_at t (i + 5) ≡ d.use_gv = ap (λ (x : ℕ). not (eqb x 0)) (word i 5 w s (omega arith) (i + 5) refl) ∙ flag_back d.use_gv in
      let front : List ℕ = d.name.start ∷ d.name.len ∷ d.vector_length ∷ d.num_windows ∷ flag_word d.is_msd ∷ flag_word d.use_gv ∷ [] in
      let rest : Stands t (i + 6) (spans_words 16 d.option ++ (d.option_count ∷ [])) = stands_right t i front (spans_words 16 d.option ++ (d.option_count ∷ [])) s (i + 6) refl in
      let e₆ : spans_at 16 t (i + 6) ≡ d.option = spans_back 16 (i + 6) d.option f.options (stands_left t (i + 6) (spans_words 16 d.option) (d.option_count ∷ []) rest) in
      let e₇ : word_at t (i + 38) ≡ d.option_count = word i 38 w s (omega arith) (i + 38) refl in
      λ y. record { name = span (e₀ y) (e₁ y); vector_length = e₂ y; num_windows = e₃ y; is_msd = e₄ y; use_gv = e₅ y; option = e₆ y; option_count = e₇ y }

  position_back : (i : ℕ) (d : PositionData) → ShapedPosition d → Stands t i (position_words d) → position_at t i ≡ d
  unfolding position_words position_at flat
  position_back i d f s =
      let w : List ℕ = position_words d in
      let e₀ : word_at t i ≡ d.name.start = word i 0 w s (omega arith) i (omega arith) in
      let e₁ : word_at t (i + 1) ≡ d.name.len = word i 1 w s (omega arith) (i + 1) refl in
      let back : List ℕ = d.stream_win_count ∷ d.stream_pdf.from ∷ d.stream_pdf.to ∷ d.stream_tree.from ∷ d.stream_tree.to
      ∷ d.gv_pdf.from ∷ d.gv_pdf.to ∷ flag_word d.has_gv_pdf ∷ d.gv_tree.from ∷ d.gv_tree.to ∷ flag_word d.has_gv_tree ∷ [] in
      let rest : Stands t (i + 2) (ranges_words 8 d.stream_win ++ back) = stands_right t i (d.name.start ∷ d.name.len ∷ []) (ranges_words 8 d.stream_win ++ back) s (i + 2) refl in
      let e₂ : ranges_at 8 t (i + 2) ≡ d.stream_win = ranges_back 8 (i + 2) d.stream_win f.windows (stands_left t (i + 2) (ranges_words 8 d.stream_win) back rest) in
      let e₃ : word_at t (i + 18) ≡ d.stream_win_count = word i 18 w s (omega arith) (i + 18) refl in
      let e₄ : range_at t (i + 19) ≡ d.stream_pdf = range_back i 19 w s (omega arith) d.stream_pdf refl refl in
      let e₅ : range_at t (i + 21) ≡ d.stream_tree = range_back i 21 w s (omega arith) d.stream_tree refl refl in
      let e₆ : range_at t (i + 23) ≡ d.gv_pdf = range_back i 23 w s (omega arith) d.gv_pdf refl refl in
      let e₇ : flag_at t (i + 25) ≡ d.has_gv_pdf = ap (λ (x : ℕ). not (eqb x 0)) (word i 25 w s (omega arith) (i + 25) refl) ∙ flag_back d.has_gv_pdf in
      let e₈ : range_at t (i + 26) ≡ d.gv_tree = range_back i 26 w s (omega arith) d.gv_tree refl refl in
      let e₉ : flag_at t (i + 28) ≡ d.has_gv_tree = ap (λ (x : ℕ). not (eqb x 0)) (word i 28 w s (omega arith) (i + 28) refl) ∙ flag_back d.has_gv_tree in
      λ y. record { name = span (e₀ y) (e₁ y); stream_win = e₂ y; stream_win_count = e₃ y; stream_pdf = e₄ y; stream_tree = e₅ y; gv_pdf = e₆ y; has_gv_pdf = e₇ y; gv_tree = e₈ y; has_gv_tree = e₉ y }

  global_back : (i : ℕ) (g : Global) → length g.stream_type ≡ 8 → length g.gv_off_context ≡ 32 → Stands t i (global_words g) → global_at t i ≡ g
  unfolding global_words global_at flat
  global_back i g a b s =
      let w : List ℕ = global_words g in
      let last : List ℕ = g.gv_off_context_count ∷ g.comment.start ∷ g.comment.len ∷ flag_word g.has_comment ∷ [] in
      let mid : List ℕ = g.stream_type_count ∷ g.fullcontext_format.start ∷ g.fullcontext_format.len ∷ g.fullcontext_version.start ∷ g.fullcontext_version.len ∷ [] in
      let front : List ℕ = g.hts_voice_version.start ∷ g.hts_voice_version.len ∷ g.sampling_frequency ∷ g.frame_period ∷ g.num_states ∷ g.num_streams ∷ [] in
      let types : List ℕ = spans_words 8 g.stream_type in
      let contexts : List ℕ = spans_words 32 g.gv_off_context in
      let r₁ : Stands t (i + 6) (types ++ (mid ++ (contexts ++ last))) = stands_right t i front (types ++ (mid ++ (contexts ++ last))) s (i + 6) refl in
      let r₂ : Stands t (i + 22) (mid ++ (contexts ++ last)) = stands_right t (i + 6) types (mid ++ (contexts ++ last)) r₁ (i + 22) (omega (arith, length_spans 8 g.stream_type)) in
      let r₃ : Stands t (i + 27) (contexts ++ last) = stands_right t (i + 22) mid (contexts ++ last) r₂ (i + 27) (omega arith) in
      let e₀ : span_at t i ≡ g.hts_voice_version = λ y. span (word i 0 w s (omega arith) i (omega arith) y) (word i 1 w s (omega arith) (i + 1) refl y) in
      let e₂ : word_at t (i + 2) ≡ g.sampling_frequency = word i 2 w s (omega arith) (i + 2) refl in
      let e₃ : word_at t (i + 3) ≡ g.frame_period = word i 3 w s (omega arith) (i + 3) refl in
      let e₄ : word_at t (i + 4) ≡ g.num_states = word i 4 w s (omega arith) (i + 4) refl in
      let e₅ : word_at t (i + 5) ≡ g.num_streams = word i 5 w s (omega arith) (i + 5) refl in
      let e₆ : spans_at 8 t (i + 6) ≡ g.stream_type = spans_back 8 (i + 6) g.stream_type a (stands_left t (i + 6) types (mid ++ (contexts ++ last)) r₁) in
      let e₇ : word_at t (i + 22) ≡ g.stream_type_count = word i 22 w s (omega arith) (i + 22) refl in
      let e₈ : span_at t (i + 23) ≡ g.fullcontext_format = span_back i 23 w s (omega arith) g.fullcontext_format refl refl in
      let e₉ : span_at t (i + 25) ≡ g.fullcontext_version = span_back i 25 w s (omega arith) g.fullcontext_version refl refl in
      let f₀ : spans_at 32 t (i + 27) ≡ g.gv_off_context = spans_back 32 (i + 27) g.gv_off_context b (stands_left t (i + 27) contexts last r₃) in
      let f₁ : word_at t (i + 91) ≡ g.gv_off_context_count = word i 91 w s (omega arith) (i + 91) refl in
      let f₂ : span_at t (i + 92) ≡ g.comment = span_back i 92 w s (omega arith) g.comment refl refl in
      let f₃ : flag_at t (i + 94) ≡ g.has_comment = ap (λ (x : ℕ). not (eqb x 0)) (word i 94 w s (omega arith) (i + 94) refl) ∙ flag_back g.has_comment in
      λ y. record { hts_voice_version = e₀ y; sampling_frequency = e₂ y; frame_period = e₃ y; num_states = e₄ y; num_streams = e₅ y; stream_type = e₆ y; stream_type_count = e₇ y; fullcontext_format = e₈ y; fullcontext_version = e₉ y; gv_off_context = f₀ y; gv_off_context_count = f₁ y; comment = f₂ y; has_comment = f₃ y }

  streams_back : (i : ℕ) (l : List StreamData) → length l ≡ 8 → ((k : ℕ) → k < 8 → ShapedStream (get_or l k no_stream_data)) → Stands t i (streams_words l) → streams_at t i ≡ l
  streams_back i l e f s =
      ap (λ (m : ℕ). run (λ k. stream_at t (i + 39 * k)) 0 m) (sym e)
      ∙ run_back no_stream_data l (λ k. stream_at t (i + 39 * k)) 0 (λ k h. item k (stands_item t (λ k. stream_words (get_or l k no_stream_data)) 39 (λ j. length_stream (get_or l j no_stream_data)) i 0 8 s k (omega arith)) (f k (omega arith)))
    where
      item : (k : ℕ) → Stands t (i + 39 * k) (stream_words (get_or l (0 + k) no_stream_data)) → ShapedStream (get_or l k no_stream_data) → stream_at t (i + 39 * (0 + k)) ≡ get_or l k no_stream_data
      item k s f =
          let z : 0 + k ≡ k = omega arith in
          ap (λ (m : ℕ). stream_at t (i + 39 * m)) z ∙ stream_back (i + 39 * k) (get_or l k no_stream_data) f (rw z at s)

  positions_back : (i : ℕ) (l : List PositionData) → length l ≡ 8 → ((k : ℕ) → k < 8 → ShapedPosition (get_or l k no_position_data)) → Stands t i (positions_words l) → positions_at t i ≡ l
  positions_back i l e f s =
      ap (λ (m : ℕ). run (λ k. position_at t (i + 29 * k)) 0 m) (sym e)
      ∙ run_back no_position_data l (λ k. position_at t (i + 29 * k)) 0 (λ k h. item k (stands_item t (λ k. position_words (get_or l k no_position_data)) 29 (λ j. length_position (get_or l j no_position_data)) i 0 8 s k (omega arith)) (f k (omega arith)))
    where
      item : (k : ℕ) → Stands t (i + 29 * k) (position_words (get_or l (0 + k) no_position_data)) → ShapedPosition (get_or l k no_position_data) → position_at t (i + 29 * (0 + k)) ≡ get_or l k no_position_data
      item k s f =
          let z : 0 + k ≡ k = omega arith in
          ap (λ (m : ℕ). position_at t (i + 29 * m)) z ∙ position_back (i + 29 * k) (get_or l k no_position_data) f (rw z at s)

  header_back : (h : Header) → Shaped h → Stands t 0 (header_words h) → header_at t ≡ h
  unfolding header_words header_at
  header_back h f s =
      let last : List ℕ = h.position_count ∷ h.data_start ∷ h.data_len ∷ [] in
      let mid : List ℕ = h.stream_count ∷ h.duration_pdf.from ∷ h.duration_pdf.to ∷ h.duration_tree.from ∷ h.duration_tree.to ∷ [] in
      let global : List ℕ = global_words h.global in
      let streams : List ℕ = streams_words h.streams in
      let positions : List ℕ = positions_words h.positions in
      let r₁ : Stands t 95 (streams ++ (mid ++ (positions ++ last))) = stands_right t 0 global (streams ++ (mid ++ (positions ++ last))) s 95 (omega (arith, length_global h.global)) in
      let r₂ : Stands t 407 (mid ++ (positions ++ last)) = stands_right t 95 streams (mid ++ (positions ++ last)) r₁ 407 (omega (arith, length_streams h.streams)) in
      let m : Stands t 407 mid = stands_left t 407 mid (positions ++ last) r₂ in
      let r₃ : Stands t 412 (positions ++ last) = stands_right t 407 mid (positions ++ last) r₂ 412 refl in
      let r₄ : Stands t 644 last = stands_right t 412 positions last r₃ 644 (omega (arith, length_positions h.positions)) in
      let e₀ : global_at t 0 ≡ h.global = global_back 0 h.global f.types f.contexts (stands_left t 0 global (streams ++ (mid ++ (positions ++ last))) s) in
      let e₁ : streams_at t 95 ≡ h.streams = streams_back 95 h.streams f.streams f.each_stream (stands_left t 95 streams (mid ++ (positions ++ last)) r₁) in
      let e₂ : word_at t 407 ≡ h.stream_count = word 407 0 mid m (omega arith) 407 refl in
      let e₃ : range_at t 408 ≡ h.duration_pdf = range_back 407 1 mid m (omega arith) h.duration_pdf refl refl in
      let e₄ : range_at t 410 ≡ h.duration_tree = range_back 407 3 mid m (omega arith) h.duration_tree refl refl in
      let e₅ : positions_at t 412 ≡ h.positions = positions_back 412 h.positions f.positions f.each_position (stands_left t 412 positions last r₃) in
      let e₆ : word_at t 644 ≡ h.position_count = word 644 0 last r₄ (omega arith) 644 refl in
      let e₇ : word_at t 645 ≡ h.data_start = word 644 1 last r₄ (omega arith) 645 refl in
      let e₈ : word_at t 646 ≡ h.data_len = word 644 2 last r₄ (omega arith) 646 refl in
      λ y. record { global = e₀ y; streams = e₁ y; stream_count = e₂ y; duration_pdf = e₃ y; duration_tree = e₄ y; positions = e₅ y; position_count = e₆ y; data_start = e₇ y; data_len = e₈ y }

-- ---- the round trip: reading the words that were written gives the record

stands-written : (w : List ℕ) (h : Header) → 647 ≤ length w → Stands (sets w 0 (header_words h)) 0 (header_words h)
stands-written w h l = record { each = λ k q. sets_at (header_words h) w 0 k 0 q (omega (arith, length_header h)) }

pub read_written : (w : List ℕ) (h : Header) → 647 ≤ length w → Shaped h → header_at (sets w 0 (header_words h)) ≡ h
read_written w h l f = header_back (sets w 0 (header_words h)) h f (stands-written w h l)

-- ---- the words of a record are judged to be a record: each flag is 0 or 1

flag_fits : (b : Bool) → is_flag (flag_word b) ≡ true
flag_fits true = refl
flag_fits false = refl

module _ (t : List ℕ) (h : Header) (s : Stands t 0 (header_words h)) where
  group_fits : (i : ℕ) → i < 8 → group_flags t i ≡ true
  unfolding header_words group_flags stream_words position_words flat
  group_fits i l =
      let last : List ℕ = h.position_count ∷ h.data_start ∷ h.data_len ∷ [] in
      let mid : List ℕ = h.stream_count ∷ h.duration_pdf.from ∷ h.duration_pdf.to ∷ h.duration_tree.from ∷ h.duration_tree.to ∷ [] in
      let global : List ℕ = global_words h.global in
      let streams : List ℕ = streams_words h.streams in
      let positions : List ℕ = positions_words h.positions in
      let r₁ : Stands t 95 (streams ++ (mid ++ (positions ++ last))) = stands_right t 0 global (streams ++ (mid ++ (positions ++ last))) s 95 (omega (arith, length_global h.global)) in
      let r₂ : Stands t 407 (mid ++ (positions ++ last)) = stands_right t 95 streams (mid ++ (positions ++ last)) r₁ 407 (omega (arith, length_streams h.streams)) in
      let r₃ : Stands t 412 (positions ++ last) = stands_right t 407 mid (positions ++ last) r₂ 412 refl in
      let d : StreamData = get_or h.streams (0 + i) no_stream_data in
      let p : PositionData = get_or h.positions (0 + i) no_position_data in
      let x : Stands t (95 + 39 * i) (stream_words d) = stands_item t (λ k. stream_words (get_or h.streams k no_stream_data)) 39 (λ j. length_stream (get_or h.streams j no_stream_data)) 95 0 8 (stands_left t 95 streams (mid ++ (positions ++ last)) r₁) i l in
      let y : Stands t (412 + 29 * i) (position_words p) = stands_item t (λ k. position_words (get_or h.positions k no_position_data)) 29 (λ j. length_position (get_or h.positions j no_position_data)) 412 0 8 (stands_left t 412 positions last r₃) i l in
      both (ap is_flag (word t (95 + 39 * i) 4 (stream_words d) x (omega arith) (95 + 39 * i + 4) refl) ∙ flag_fits d.is_msd)
      (both (ap is_flag (word t (95 + 39 * i) 5 (stream_words d) x (omega arith) (95 + 39 * i + 5) refl) ∙ flag_fits d.use_gv)
      (both (ap is_flag (word t (412 + 29 * i) 25 (position_words p) y (omega arith) (412 + 29 * i + 25) refl) ∙ flag_fits p.has_gv_pdf)
      (ap is_flag (word t (412 + 29 * i) 28 (position_words p) y (omega arith) (412 + 29 * i + 28) refl) ∙ flag_fits p.has_gv_tree)))

  comment_flag : is_flag (word_at t 94) ≡ true
  unfolding header_words global_words flat
  comment_flag =
      let last : List ℕ = h.position_count ∷ h.data_start ∷ h.data_len ∷ [] in
      let mid : List ℕ = h.stream_count ∷ h.duration_pdf.from ∷ h.duration_pdf.to ∷ h.duration_tree.from ∷ h.duration_tree.to ∷ [] in
      let x : Stands t 0 (global_words h.global) = stands_left t 0 (global_words h.global) (streams_words h.streams ++ (mid ++ (positions_words h.positions ++ last))) s in
      ap is_flag (word t 0 94 (global_words h.global) x (omega arith) 94 refl) ∙ flag_fits h.global.has_comment

  flags_fit_lem : flags_fit t ≡ true
  unfolding flags_fit
  flags_fit_lem = both comment_flag (each_all (group_flags t) 0 8 (λ i a l. group_fits i (omega arith)))

pub written_flags : (w : List ℕ) (h : Header) → 647 ≤ length w → flags_fit (sets w 0 (header_words h)) ≡ true
written_flags w h l = flags_fit_lem (sets w 0 (header_words h)) h (stands-written w h l)
