-- The answers from a label by computation (02, Wish 1): which rows fit, which byte each gets, the number of the call and the answer slice after it.
use Rattle.std.specs.Prelude.{◌≡◌, Bool, true, false, cond, ◌&&◌, ◌||◌, List, [], ◌∷◌, ℕ, zero, suc, ◌+◌, ltb, leb, eqb, length}
use Rattle.std.proofs.lemmas.List.Edits.{sets}
use Rattle.written.specs.Bytes.{part}
use Rattle.laws.specs.Every.{all, some}
use Rattle.table_rows.specs.Rows.{question_rows, question_first, question_patterns, pattern_rows, pattern_start, pattern_len}
use Rattle.label_match.specs.Matched.{match_of}

-- ---- which rows fit

-- none, or they end inside
unfoldable pub bytes_fit : List ℕ → ℕ → ℕ → Bool
bytes_fit d a n = eqb n 0 || leb (a + n) (length d)

-- pattern p is a row of its table, with its bytes in the data
unfoldable pub pattern_fits : List ℕ → List ℕ → ℕ → Bool
pattern_fits P d p = ltb p (pattern_rows P) && bytes_fit d (pattern_start P p) (pattern_len P p)

-- so are all patterns of question q
unfoldable pub row_fits : List ℕ → List ℕ → List ℕ → ℕ → Bool
row_fits Q P d q = all (λ k. pattern_fits P d (question_first Q q + k)) 0 (question_patterns Q q)

-- of every question
unfoldable pub rows_fit : List ℕ → List ℕ → List ℕ → Bool
rows_fit Q P d = all (row_fits Q P d) 0 (question_rows Q)

-- ---- the bytes

unfoldable pub pattern_matches : List ℕ → List ℕ → List ℕ → ℕ → Bool
pattern_matches label P d p = match_of (part d (pattern_start P p) (pattern_len P p)) label

-- some pattern of question q matches
unfoldable pub row_matches : List ℕ → List ℕ → List ℕ → List ℕ → ℕ → Bool
row_matches label Q P d q = some (λ k. pattern_matches label P d (question_first Q q + k)) 0 (question_patterns Q q)

abbrev pub byte_of : Bool → ℕ
byte_of true = 1
byte_of false = 0

-- the bytes of n questions, from question q on
unfoldable pub bytes_from : (ℕ → Bool) → ℕ → ℕ → List ℕ
bytes_from f q zero = []
bytes_from f q (suc n) = byte_of (f q) ∷ bytes_from f (suc q) n

unfoldable pub answer_bytes : List ℕ → List ℕ → List ℕ → List ℕ → List ℕ
answer_bytes label Q P d = bytes_from (row_matches label Q P d) 0 (question_rows Q)

-- ---- the call

-- 24 before 20
unfoldable pub answers_number : List ℕ → List ℕ → List ℕ → ℕ → ℕ
answers_number Q P d room = cond (rows_fit Q P d) (cond (ltb room (question_rows Q)) 20 0) 24

-- the slice after it: the bytes in front where the number is 0, else as before
unfoldable pub answers_after : List ℕ → List ℕ → List ℕ → List ℕ → List ℕ → List ℕ
answers_after label Q P d before = cond (eqb (answers_number Q P d (length before)) 0) (sets before 0 (answer_bytes label Q P d)) before

-- what is promised of the call: its number, and the slice after it
pub record Answering (label Q P d before : List ℕ) (number : ℕ) (after : List ℕ) : Type 0 where
  pub said : number ≡ answers_number Q P d (length before)
  pub slice : after ≡ answers_after label Q P d before
