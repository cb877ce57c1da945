-- What `larsavim_trailer` and `larsavim_trailed` promise: what they return, and every lent slice after them, by the file's bytes (02, Wish 7).
use Rattle.std.specs.Prelude.{◌≡◌, List, [], ◌∷◌, ℕ, ◌*◌, ◌≤◌, ◌<◌, length}
use Rattle.std.proofs.lemmas.List.Edits.{sets}
use Rattle.written.specs.Record.{Header, Says}
use Rattle.written.specs.Faults.{Refused}
use Rattle.written.specs.Trailer.{Writes, Finds}
use Rattle.promises.specs.Opening.{record_words}

-- number, place, bytes of the trailer; the words as `larsavim_open` has them; the trailer at the front of the buffer
pub data AfterTrailer (file words buffer out : List ℕ) : ℕ → List ℕ → List ℕ → List ℕ → Type 0 where
  -- no room for the answer
  short_out : length out < 3 → AfterTrailer file words buffer out 20 words buffer out
  -- the file is refused
  unopened : {n p : ℕ} → 3 ≤ length out → Refused file n p → AfterTrailer file words buffer out n words buffer (sets out 0 (n ∷ p ∷ 0 ∷ []))
  -- it says a record, and the words are too few for it
  few_words : {h : Header} → 3 ≤ length out → Says file h → length words < 647 → AfterTrailer file words buffer out 20 words buffer (sets out 0 (20 ∷ 0 ∷ 0 ∷ []))
  -- it says one: 0 and the trailer is written; or why not
  answered : {h : Header} {n p z : ℕ} {trailer : List ℕ} → 3 ≤ length out → Says file h → 647 ≤ length words → Writes file (length buffer) n p z trailer
      → AfterTrailer file words buffer out n (sets words 0 (record_words h)) (sets buffer 0 trailer) (sets out 0 (n ∷ p ∷ z ∷ []))

-- number, place, rows, file offset of the first row
pub data AfterTrailed (file words out : List ℕ) : ℕ → List ℕ → List ℕ → Type 0 where
  short_out : length out < 4 → AfterTrailed file words out 20 words out
  unopened : {n p : ℕ} → 4 ≤ length out → Refused file n p → AfterTrailed file words out n words (sets out 0 (n ∷ p ∷ 0 ∷ 0 ∷ []))
  few_words : {h : Header} → 4 ≤ length out → Says file h → length words < 647 → AfterTrailed file words out 20 words (sets out 0 (20 ∷ 0 ∷ 0 ∷ 0 ∷ []))
  -- the numbers of the rows are three a row
  answered : {h : Header} {n p b : ℕ} {numbers : List ℕ} (k : ℕ) → 4 ≤ length out → Says file h → 647 ≤ length words → Finds file n p numbers b → length numbers ≡ 3 * k
      → AfterTrailed file words out n (sets words 0 (record_words h)) (sets out 0 (n ∷ p ∷ k ∷ b ∷ []))
