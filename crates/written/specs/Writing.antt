-- Tree text written out of loaded tables (02, Wish 6): what rows say, string starts aside; the bytes that are written of it; when nothing is written.
-- Rows are lists of numbers, as in Linking and Tables; d is the data that string starts count in, Q, P, T, R are the question, pattern, tree and record rows.
use Rattle.std.specs.Prelude.{◌≡◌, false, cond, ℕ, zero, suc, ◌+◌, ◌/◌, ◌%◌, ◌≤◌, ◌<◌, min, ltb, ℤ, pos, negsuc, neg_ℤ, length, get_or, take, drop}
use mathlib.Core.List.{List, [], ◌∷◌, ◌++◌, map, flatten}
use Rattle.written.specs.Bytes.{newline, quote, comma, dash, bracket, unbracket, brace, unbrace, in_name, in_pattern, part}
use Rattle.written.specs.Said.{Ref, node, pdf, Line, Body, lone, braces, Tree, Question, Text, Layout}
use Rattle.written.specs.TreeText.{QS, star, Says}
use Rattle.written.specs.Linking.{Nth, Row, branch, NotSingle}
use Rattle.written.specs.Tables.{TreeRows}

-- ---- what rows say: the strings that they point at, wherever these stand, and all their other numbers

module _ (d : List ℕ) where
  -- the n bytes from a on are all there, and are w
  pub record Spells (a n : ℕ) (w : List ℕ) : Type 0 where
    pub bytes_of : part d a n ≡ w
    pub all_there : length w ≡ n

  -- pattern rows (start, length)
  pub data PatternsSay : List Row → List (List ℕ) → Type 0 where
    none : PatternsSay [] []
    more : {a n : ℕ} {w : List ℕ} {rows : List Row} {ws : List (List ℕ)}
        → Spells a n w → PatternsSay rows ws → PatternsSay ((a ∷ n ∷ []) ∷ rows) (w ∷ ws)

  -- question rows (name start, length, first pattern, patterns), and the pattern rows that they use up, one question after the other; k is the first pattern of the first
  pub data QuestionsSay : ℕ → List Row → List Row → List Question → Type 0 where
    none : {k : ℕ} → QuestionsSay k [] [] []
    more : {k a n : ℕ} {w : List ℕ} {own rest rows : List Row} {ws : List (List ℕ)} {qs : List Question}
        → Spells a n w → PatternsSay own ws → QuestionsSay (k + length own) rows rest qs
        → QuestionsSay k ((a ∷ n ∷ k ∷ length own ∷ []) ∷ rows) (own ++ rest) (record { name = w; patterns = ws } ∷ qs)

  module _ (Q P T R : List Row) where
    -- the rows of the four tables are those that linking makes of t, string starts aside
    pub record RowsSay (t : Text) : Type 0 where
      pub questions : QuestionsSay 0 Q P t.questions
      pub trees : TreeRows t.questions 0 t.trees T R

    -- some text reads back to the rows
    pub record ReadBack : Type 0 where
      pub s : List ℕ
      pub i : ℕ
      pub t : Text
      pub l : Layout
      pub says : Says s i t l
      pub rows : RowsSay t

-- ---- the bytes: digits, references, lines, trees, questions

-- the digits of a number below 10^20, without zeros in front
unfoldable pub figures_in : ℕ → ℕ → List ℕ
figures_in zero n = []
figures_in (suc f) n = cond (ltb n 10) ((48 + n) ∷ []) (figures_in f (n / 10) ++ ((48 + n % 10) ∷ []))

abbrev pub figures : ℕ → List ℕ
figures n = figures_in 20 n

abbrev pub spelled_number : ℤ → List ℕ
spelled_number (pos n) = figures n
spelled_number (negsuc n) = dash ∷ figures (suc n)

-- a node by its id; a PDF as "p_3"
abbrev pub spelled_ref : Ref → List ℕ
spelled_ref (node x) = spelled_number x
spelled_ref (pdf n) = quote ∷ 112 ∷ 95 ∷ (figures n ++ (quote ∷ []))

-- id, question, no, yes
unfoldable pub spelled_line : Line → List ℕ
spelled_line l = spelled_number l.id ++ (32 ∷ (l.question ++ (32 ∷ (spelled_ref l.no ++ (32 ∷ (spelled_ref l.yes ++ (newline ∷ [])))))))

abbrev pub spelled_body : Body → List ℕ
spelled_body (lone r) = spelled_ref r
spelled_body (braces ls) = brace ∷ newline ∷ (flatten (map spelled_line ls) ++ (unbrace ∷ []))

-- {*} [2] body
unfoldable pub spelled_tree : Tree → List ℕ
spelled_tree t = star ++ (32 ∷ bracket ∷ (spelled_number t.state ++ (unbracket ∷ 32 ∷ (spelled_body t.body ++ (newline ∷ [])))))

-- "x*", "y"
unfoldable pub spelled_patterns : List (List ℕ) → List ℕ
spelled_patterns [] = []
spelled_patterns (w ∷ []) = quote ∷ (w ++ (quote ∷ []))
spelled_patterns (w ∷ (v ∷ ws)) = quote ∷ (w ++ (quote ∷ comma ∷ 32 ∷ spelled_patterns (v ∷ ws)))

-- QS A { patterns }
unfoldable pub spelled_question : Question → List ℕ
spelled_question q = QS ++ (32 ∷ (q.name ++ (32 ∷ brace ∷ 32 ∷ (spelled_patterns q.patterns ++ (32 ∷ unbrace ∷ newline ∷ [])))))

unfoldable pub spelled : Text → List ℕ
spelled t = flatten (map spelled_question t.questions) ++ flatten (map spelled_tree t.trees)

-- ---- what is written: ids 0, -1, -2 and on, a bare leaf as a lone reference

-- lines from line k on bear the ids -k, -(k + 1), ..
pub data Numbered : ℕ → List Line → Type 0 where
  none : {k : ℕ} → Numbered k []
  more : {k : ℕ} {l : Line} {ls : List Line} → l.id ≡ neg_ℤ (pos k) → Numbered (suc k) ls → Numbered k (l ∷ ls)

pub data Plain : List Tree → Type 0 where
  none : Plain []
  leaf : {t : Tree} {ts : List Tree} {n : ℕ} → t.body ≡ lone (pdf n) → Plain ts → Plain (t ∷ ts)
  lines : {t : Tree} {ts : List Tree} {ls : List Line} → t.body ≡ braces ls → NotSingle ls → Numbered 0 ls → Plain ts → Plain (t ∷ ts)

-- w is the text of the rows: it reads back to them, and is spelled so
pub record Written (d : List ℕ) (Q P T R : List Row) (w : List ℕ) : Type 0 where
  pub t : Text
  pub l : Layout
  pub says : Says w 0 t l
  pub rows : RowsSay d Q P T R t
  pub plain : Plain t.trees
  pub bytes_of : w ≡ spelled t

-- ---- when nothing is written

-- n things from a on, judged one by one, stand among m
abbrev pub Among : ℕ → ℕ → ℕ → Type 0
Among a n m = (k : ℕ) → k < n → a + k < m

module _ (d : List ℕ) (Q P T R : List Row) where
  -- 24: a row points outside its table or the data. Yes and no count from the first record of the tree
  pub data Outside : Type 0 where
    name : {i a n f m : ℕ} → Nth Q i (a ∷ n ∷ f ∷ m ∷ []) → ¬ Among a n (length d) → Outside
    patterns : {i a n f m : ℕ} → Nth Q i (a ∷ n ∷ f ∷ m ∷ []) → ¬ Among f m (length P) → Outside
    pattern : {i a n : ℕ} → Nth P i (a ∷ n ∷ []) → ¬ Among a n (length d) → Outside
    records : {i x f m h : ℕ} → Nth T i (x ∷ f ∷ m ∷ h ∷ []) → ¬ Among f m (length R) → Outside
    question : {i q y n : ℕ} → Nth R i (branch q y n) → length Q ≤ q → Outside
    goes_yes : {i x f m h k q y n : ℕ} → Nth T i (x ∷ f ∷ m ∷ h ∷ []) → k < m → Nth R (f + k) (branch q y n) → length R ≤ f + y → Outside
    goes_no : {i x f m h k q y n : ℕ} → Nth T i (x ∷ f ∷ m ∷ h ∷ []) → k < m → Nth R (f + k) (branch q y n) → length R ≤ f + n → Outside

  -- 22: a byte that no name or no pattern has
  pub data OddByte : Type 0 where
    in_a_name : {i a n f m k : ℕ} → Nth Q i (a ∷ n ∷ f ∷ m ∷ []) → k < n → in_name (get_or d (a + k) 0) ≡ false → OddByte
    in_a_pattern : {i a n k : ℕ} → Nth P i (a ∷ n ∷ []) → k < n → in_pattern (get_or d (a + k) 0) ≡ false → OddByte

  -- why nothing is written, however much room there is: in this order
  pub data Unwritten : ℕ → Type 0 where
    outside : Outside → Unwritten 24
    odd_byte : ¬ Outside → OddByte → Unwritten 22
    unread : ¬ Outside → ¬ OddByte → ¬ ReadBack d Q P T R → Unwritten 17

  -- why nothing is written into so much room: 20 after the others
  pub data NotWritten (room : ℕ) : ℕ → Type 0 where
    unwritten : {n : ℕ} → Unwritten n → NotWritten room n
    no_room : {w : List ℕ} → Written d Q P T R w → room < length w → NotWritten room 20

  -- ---- the two calls

  -- how long the text is: number and length, or 2^64 - 1 where the length is no number of 64 bits
  pub data Measured : ℕ → ℕ → Type 0 where
    done : {w : List ℕ} {n : ℕ} → Written d Q P T R w → n ≡ min (length w) 18446744073709551615 → Measured 0 n
    refused : {c : ℕ} → Unwritten c → Measured c 0

  -- the text into a buffer b: number, length, and the buffer after it. The text stands in front of what was behind it, or nothing is changed
  pub data Wrote (b : List ℕ) : ℕ → ℕ → List ℕ → Type 0 where
    done : {w e : List ℕ} {n : ℕ} → Written d Q P T R w → length w ≤ length b → n ≡ length w → e ≡ w ++ drop (length w) b → Wrote b 0 n e
    refused : {c : ℕ} {e : List ℕ} → NotWritten (length b) c → e ≡ b → Wrote b c 0 e

-- of a tree's row a text says the first four numbers (02, Wish 10)
abbrev pub first_four : List Row → List Row
first_four T = map (take 4) T
