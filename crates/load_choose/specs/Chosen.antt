-- Which model is asked for, and where its tree and its PDF stand, in 01's order: 16 for the record, 13, 14, 15, then the width's limit (12). All numbers
-- are exact.
use Rattle.std.specs.declared.option.Option.{Option}
use Rattle.std.specs.Prelude.{Bool, true, false, cond, ◌&&◌, List, ℕ, ◌+◌, ◌*◌, ◌≤◌, ◌<◌, ltb, length, get_or, Err, Ok, Result, Some, None}
use Rattle.written.specs.Bytes.{same}
use Rattle.error.specs.declared.Refusal.TheVariants as refusal
use Rattle.head_record.specs.Empty.{no_span}
use Rattle.head_record.specs.declared.Range.{Range}
use Rattle.head_record.specs.declared.StreamData.{StreamData}
use Rattle.head_record.specs.declared.PositionData.{PositionData}
use Rattle.head_record.specs.declared.Header.{Header}
use Rattle.head_record_fits.specs.Fits.{no_stream_data, no_position_data, record_fits}
use Rattle.text_parts.specs.Parts.{bytes_of}
use Rattle.link_search.specs.Found.{last_below}
use Rattle.load_choose.specs.declared.Which.{Which}
use Rattle.load_choose.specs.declared.Which.TheVariants.{Duration, Stream, Gv}
use Rattle.load_choose.specs.declared.Chosen.{Chosen}
use Rattle.error.specs.declared.Refusal.{Refusal}

-- a tree range from u to v, a PDF range from x to y, and the numbers in an entry
abbrev pub chosen : ℕ → ℕ → ℕ → ℕ → ℕ → Result Chosen Refusal
chosen u v x y w = Ok (record { tree_from = u; tree_to = v; pdf_from = x; pdf_to = y; width = w })

-- ---- a range, whose end belongs to it, in data of n bytes

-- ---- a model of a width

abbrev pub bit : Bool → ℕ
bit true = 1
bit false = 0

-- 12: the width is above its limit
unfoldable pub model_of : Range → Range → ℕ → Result Chosen Refusal
model_of tree pdf w = cond (ltb 4096 w) (Err refusal.Limit) (chosen tree.from tree.to pdf.from pdf.to w)

unfoldable pub stream_model : StreamData → PositionData → Result Chosen Refusal
stream_model d p = model_of p.stream_tree p.stream_pdf (2 * (d.vector_length * d.num_windows) + bit d.is_msd)

-- 15: the stream uses no GV, or its tree or its PDF is absent
unfoldable pub gv_model : StreamData → PositionData → Result Chosen Refusal
gv_model d p = cond (d.use_gv && p.has_gv_tree && p.has_gv_pdf) (model_of p.gv_tree p.gv_pdf (2 * d.vector_length)) (Err refusal.UseGv)

-- ---- the entries of a name: the last of those that count

abbrev pub position_named : List ℕ → List PositionData → ℕ → List ℕ → Option ℕ
position_named s l n w = last_below (λ k. same (bytes_of s (get_or l k no_position_data).name) w) n

abbrev pub stream_named : List ℕ → List StreamData → ℕ → List ℕ → Option ℕ
stream_named s l n w = last_below (λ k. same (bytes_of s (get_or l k no_stream_data).name) w) n

-- 13: no such position
abbrev pub with_position : (PositionData → Result Chosen Refusal) → List PositionData → Option ℕ → Result Chosen Refusal
with_position make l (Some k) = make (get_or l k no_position_data)
with_position make l None = Err refusal.NoPosition

-- 14: no such stream
abbrev pub with_stream : (StreamData → Result Chosen Refusal) → List StreamData → Option ℕ → Result Chosen Refusal
with_stream make l (Some k) = make (get_or l k no_stream_data)
with_stream make l None = Err refusal.NoStream

-- what is made of the entries of the name w
unfoldable pub named : (StreamData → PositionData → Result Chosen Refusal) → List ℕ → Header → List ℕ → Result Chosen Refusal
named make s h w =
    with_position
    (λ p. with_stream (λ d. make d p) h.streams (stream_named s h.streams h.stream_count w))
    h.positions
    (position_named s h.positions h.position_count w)

-- what is made of the entries of the i-th name in STREAM_TYPE; 13: there is no such name
unfoldable pub numbered : (StreamData → PositionData → Result Chosen Refusal) → List ℕ → Header → ℕ → Result Chosen Refusal
numbered make s h i =
    cond (ltb i h.global.stream_type_count) (named make s h (bytes_of s (get_or h.global.stream_type i no_span))) (Err refusal.NoPosition)

-- ---- the model asked for

abbrev pub asked : List ℕ → Header → Which → Result Chosen Refusal
asked s h Duration = model_of h.duration_tree h.duration_pdf (2 * h.global.num_states)
asked s h (Stream i) = numbered stream_model s h i
asked s h (Gv i) = numbered gv_model s h i

-- 16: the record does not fit the file
unfoldable pub chosen_of : List ℕ → Header → Which → Result Chosen Refusal
chosen_of s h w = cond (record_fits (length s) h) (asked s h w) (Err refusal.Range)

-- ---- where its text stands, however wide it is (02, Wish 7): the same, of width 0

-- measured or not
unfoldable pub stream_by : Bool → StreamData → PositionData → Result Chosen Refusal
stream_by m d p = model_of p.stream_tree p.stream_pdf (2 * (cond m d.vector_length 0 * d.num_windows) + bit (m && d.is_msd))

abbrev pub usable : StreamData → PositionData → Bool
usable d p = d.use_gv && p.has_gv_tree && p.has_gv_pdf

unfoldable pub gv_by : Bool → StreamData → PositionData → Result Chosen Refusal
gv_by m d p = cond (usable d p) (model_of p.gv_tree p.gv_pdf (2 * cond m d.vector_length 0)) (Err refusal.UseGv)

abbrev pub made_by : Bool → Bool → StreamData → PositionData → Result Chosen Refusal
made_by m true = gv_by m
made_by m false = stream_by m

abbrev pub asked_by : Bool → List ℕ → Header → Which → Result Chosen Refusal
asked_by m s h Duration = model_of h.duration_tree h.duration_pdf (2 * cond m h.global.num_states 0)
asked_by m s h (Stream i) = numbered (stream_by m) s h i
asked_by m s h (Gv i) = numbered (gv_by m) s h i

abbrev pub chosen_by : Bool → List ℕ → Header → Which → Result Chosen Refusal
chosen_by m s h w = cond (record_fits (length s) h) (asked_by m s h w) (Err refusal.Range)

unfoldable pub text_chosen : List ℕ → Header → Which → Result Chosen Refusal
text_chosen s h w = chosen_by false s h w

-- whether the entry that a search among streams found uses a GV
abbrev pub used_by : List StreamData → Option ℕ → Bool
used_by l (Some k) = (get_or l k no_stream_data).use_gv
used_by l None = false

-- whether the stream of the i-th name uses one
unfoldable pub uses_gv : List ℕ → Header → ℕ → Bool
uses_gv s h i = used_by h.streams (stream_named s h.streams h.stream_count (bytes_of s (get_or h.global.stream_type i no_span)))

-- ---- groups in words

-- the words have the names of n groups, the first at `at`, each of the others `step` words behind the one before
abbrev pub NamesIn : ℕ → ℕ → ℕ → List ℕ → Type 0
NamesIn at step n w = (k : ℕ) → k < n → at + step * k + 2 ≤ length w
