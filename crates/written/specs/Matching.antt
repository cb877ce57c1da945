-- Answers from the label (document 02, Wish 1): when a whole label matches a pattern, and which byte a question row gets.
-- A match is a cut of the label into pieces, one for each byte of the pattern; nothing is searched for.
use Rattle.std.specs.Prelude.{◌≡◌, ℕ, ◌+◌, ◌≤◌, ◌<◌, length, drop}
use mathlib.Core.List.{List, [], ◌∷◌, ◌++◌, Forall₂}
use Rattle.written.specs.Bytes.{part}
use Rattle.written.specs.Linking.{Nth, Row}

-- ---- one pattern

-- * ?
abbrev pub any_run : ℕ
any_run = 42

abbrev pub any_one : ℕ
any_one = 63

-- what a byte of a pattern stands for: * for any run of bytes, empty too; ? for exactly one byte; everything else for itself
pub data Stands (c : ℕ) : List ℕ → Type 0 where
  run : {w : List ℕ} → c ≡ any_run → Stands c w
  one : {b : ℕ} → c ≡ any_one → Stands c (b ∷ [])
  itself : ¬ (c ≡ any_run) → ¬ (c ≡ any_one) → Stands c (c ∷ [])

-- the whole label is what the pattern's bytes stand for, one piece after the other
pub data Matches : List ℕ → List ℕ → Type 0 where
  end : Matches [] []
  piece : {c : ℕ} {p w rest label : List ℕ} → Stands c w → Matches p rest → label ≡ w ++ rest → Matches (c ∷ p) label

-- ---- a question row, over pattern rows (start, length) and the data that they point into

module _ (patterns : List Row) (d : List ℕ) where
  -- pattern k stands in its table, and each of its bytes in the data
  pub data PatternFits (k : ℕ) : Type 0 where
    fits : {a n : ℕ} → Nth patterns k (a ∷ n ∷ []) → ((j : ℕ) → j < n → a + j < length d) → PatternFits k

  -- so does every pattern of a row (name start, length, first pattern, patterns); the name is not looked at
  pub data RowFits : Row → Type 0 where
    fits : {s n f m : ℕ} → ((k : ℕ) → k < m → PatternFits (f + k)) → RowFits (s ∷ n ∷ f ∷ m ∷ [])

  module _ (label : List ℕ) where
    -- some pattern of the row matches the whole label
    pub data Yes : Row → Type 0 where
      by : {s l f m k a n : ℕ} → k < m → Nth patterns (f + k) (a ∷ n ∷ []) → Matches (part d a n) label → Yes (s ∷ l ∷ f ∷ m ∷ [])

    -- the byte of a row
    pub data AnswerByte (row : Row) : ℕ → Type 0 where
      yes_byte : Yes row → AnswerByte row 1
      no_byte : ¬ Yes row → AnswerByte row 0

    -- the call over question rows: its number, and the answer slice after it
    pub data Answered (questions : List Row) (before : List ℕ) : ℕ → List ℕ → Type 0 where
      outside : {q : ℕ} {row : Row} → Nth questions q row → ¬ RowFits row → Answered questions before 24 before
      short : ((q : ℕ) (row : Row) → Nth questions q row → RowFits row) → length before < length questions → Answered questions before 20 before
      filled : {bytes : List ℕ} → ((q : ℕ) (row : Row) → Nth questions q row → RowFits row) → length questions ≤ length before
          → Forall₂ AnswerByte questions bytes → Answered questions before 0 (bytes ++ drop (length questions) before)
