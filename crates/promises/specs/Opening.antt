-- What `larsavim_open` promises: what it returns, the caller's words and `out` after it, by the file's bytes.
use Rattle.std.specs.Prelude.{List, [], ◌∷◌, ℕ, ◌≤◌, ◌<◌, length}
use Rattle.std.proofs.lemmas.List.Edits.{sets}
use Rattle.written.specs.Record.{Header, Says}
use Rattle.written.specs.Faults.{Refused}
use Rattle.head_record.specs.Record.{header_record}
use Rattle.head_words.specs.Words.{header_words}

-- the 647 words of a record (host/larsavim.h, 'The record')
abbrev pub record_words : Header → List ℕ
record_words h = header_words (header_record h)

pub data AfterOpen (file words out : List ℕ) : ℕ → List ℕ → List ℕ → Type 0 where
  -- no room for the answer
  short_out : length out < 2 → AfterOpen file words out 20 words out
  -- the file says a record, and the words are that record
  opened : {h : Header} → 2 ≤ length out → Says file h → 647 ≤ length words → AfterOpen file words out 0 (sets words 0 (record_words h)) (sets out 0 (0 ∷ 0 ∷ []))
  -- it says one, and the words are too few for it
  few_words : {h : Header} → 2 ≤ length out → Says file h → length words < 647 → AfterOpen file words out 20 words (sets out 0 (20 ∷ 0 ∷ []))
  -- it is refused, with number and place
  refused : {n p : ℕ} → 2 ≤ length out → Refused file n p → AfterOpen file words out n words (sets out 0 (n ∷ p ∷ []))
