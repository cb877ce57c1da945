-- What `larsavim_comment`, `larsavim_get` and `larsavim_pair` promise, of words that an opening of the file wrote.
use Rattle.std.specs.Prelude.{◌≡◌, List, [], ◌∷◌, ℕ, ◌+◌, ◌≤◌, ◌<◌, length, get_or}
use Rattle.std.proofs.Math.Option.{some, none}
use Rattle.std.proofs.lemmas.List.Edits.{sets}
use Rattle.written.specs.Bytes.{Span}
use Rattle.written.specs.Record.{Header}
use Rattle.promises.specs.Opening.{record_words}

-- COMMENT: number, slice, start, length. It stands in the file (0), or there is none and the caller's fallback, of so many bytes, is told (1)
pub data AfterComment (h : Header) (fallback : ℕ) (out : List ℕ) : ℕ → List ℕ → Type 0 where
  short_out : length out < 4 → AfterComment h fallback out 20 out
  there : {x : Span} → 4 ≤ length out → h.global.comment ≡ some x → AfterComment h fallback out 0 (sets out 0 (0 ∷ 0 ∷ x.start ∷ x.len ∷ []))
  absent : 4 ≤ length out → h.global.comment ≡ none → AfterComment h fallback out 0 (sets out 0 (0 ∷ 1 ∷ 0 ∷ fallback ∷ []))

-- a word of the record, by its place
pub data AfterGet (h : Header) (field : ℕ) (out : List ℕ) : ℕ → List ℕ → Type 0 where
  short_out : length out < 2 → AfterGet h field out 20 out
  there : 2 ≤ length out → field < 647 → AfterGet h field out 0 (sets out 0 (0 ∷ get_or (record_words h) field 0 ∷ []))
  no_field : 2 ≤ length out → 647 ≤ field → AfterGet h field out 16 (sets out 0 (16 ∷ 0 ∷ []))

-- two words of it
pub data AfterPair (h : Header) (field : ℕ) (out : List ℕ) : ℕ → List ℕ → Type 0 where
  short_out : length out < 3 → AfterPair h field out 20 out
  there : 3 ≤ length out → field < 646 → AfterPair h field out 0 (sets out 0 (0 ∷ get_or (record_words h) field 0 ∷ get_or (record_words h) (field + 1) 0 ∷ []))
  no_field : 3 ≤ length out → 646 ≤ field → AfterPair h field out 16 (sets out 0 (16 ∷ 0 ∷ 0 ∷ []))
