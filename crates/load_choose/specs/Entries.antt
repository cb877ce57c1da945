-- The entries of a stream's name, without a search (01's 13 and 14; docs/DECISIONS.md, 'The record'): of the groups that count, the last one whose name has
-- the same bytes; and the choice of a model by them. proofs/Joined shows that `chosen_of` answers so, and nothing else.
use Rattle.std.specs.Prelude.{◌≡◌, true, false, List, ℕ, ◌*◌, ◌≤◌, ◌<◌, length, get_or, take, Err, Result}
use Rattle.written.specs.Linking.{Nth, Last}
use Rattle.error.specs.declared.Refusal.TheVariants as refusal
use Rattle.head_record.specs.Empty.{no_span}
use Rattle.text_parts.specs.declared.Span.{Span}
use Rattle.head_record.specs.declared.StreamData.{StreamData}
use Rattle.head_record.specs.declared.PositionData.{PositionData}
use Rattle.head_record.specs.declared.Header.{Header}
use Rattle.text_parts.specs.Parts.{bytes_of}
use Rattle.head_record_fits.specs.Fits.{record_fits}
use Rattle.load_choose.specs.Chosen.{model_of, stream_model, gv_model}
use Rattle.load_choose.specs.declared.Which.{Which}
use Rattle.load_choose.specs.declared.Which.TheVariants.{Duration, Stream, Gv}
use Rattle.load_choose.specs.declared.Chosen.{Chosen}
use Rattle.error.specs.declared.Refusal.{Refusal}

-- x is the last of the entries l whose name has the bytes w
pub record LastNamed {A : Type 0} (name : A → Span) (s w : List ℕ) (l : List A) (x : A) : Type 0 where
  pub row : ℕ
  pub last : Last (λ e. bytes_of s (name e) ≡ w) l row
  pub entry : last.at ≡ x

-- none of them has that name
abbrev pub Unnamed : {A : Type 0} → (A → Span) → List ℕ → List ℕ → List A → Type 0
Unnamed {A} name s w l = (k : ℕ) (x : A) → Nth l k x → ¬ (bytes_of s (name x) ≡ w)

-- the groups that count
abbrev pub positions_of : Header → List PositionData
positions_of h = take h.position_count h.positions

abbrev pub streams_of : Header → List StreamData
streams_of h = take h.stream_count h.streams

abbrev pub position_name : PositionData → Span
position_name p = p.name

abbrev pub stream_name : StreamData → Span
stream_name d = d.name

-- the i-th name in STREAM_TYPE
abbrev pub type_name : List ℕ → Header → ℕ → List ℕ
type_name s h i = bytes_of s (get_or h.global.stream_type i no_span)

-- what is made of the entries of the i-th name, or the refusal
pub data Numbered (make : StreamData → PositionData → Result Chosen Refusal) (s : List ℕ) (h : Header) (i : ℕ) : Result Chosen Refusal → Type 0 where
  no_number : h.global.stream_type_count ≤ i → Numbered make s h i (Err refusal.NoPosition)
  no_position : i < h.global.stream_type_count → Unnamed position_name s (type_name s h i) (positions_of h) → Numbered make s h i (Err refusal.NoPosition)
  no_stream : {p : PositionData} → i < h.global.stream_type_count → LastNamed position_name s (type_name s h i) (positions_of h) p → Unnamed stream_name s (type_name s h i) (streams_of h)
      → Numbered make s h i (Err refusal.NoStream)
  entries : {p : PositionData} {d : StreamData} → i < h.global.stream_type_count → LastNamed position_name s (type_name s h i) (positions_of h) p → LastNamed stream_name s (type_name s h i) (streams_of h) d
      → Numbered make s h i (make d p)

-- each array has its 8 places
pub record Arrays (h : Header) : Type 0 where
  pub streams : length h.streams ≡ 8
  pub positions : length h.positions ≡ 8

-- the model asked for, or the refusal
pub data Choice (s : List ℕ) (h : Header) : Which → Result Chosen Refusal → Type 0 where
  unfit : {w : Which} → record_fits (length s) h ≡ false → Choice s h w (Err refusal.Range)
  duration : record_fits (length s) h ≡ true → Choice s h Duration (model_of h.duration_tree h.duration_pdf (2 * h.global.num_states))
  stream : {i : ℕ} {c : Result Chosen Refusal} → record_fits (length s) h ≡ true → Numbered stream_model s h i c → Choice s h (Stream i) c
  gv : {i : ℕ} {c : Result Chosen Refusal} → record_fits (length s) h ≡ true → Numbered gv_model s h i c → Choice s h (Gv i) c
