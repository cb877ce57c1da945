-- The text that the rows of lent tables say, computed row by row (02, Wish 6): ids 0, -1, -2 and on, a tree without lines but with a record as a bare
-- leaf. Total: a row that isn't there says nothing, or 0; tables that were judged have none.
use Rattle.std.specs.Prelude.{Bool, cond, List, [], ◌∷◌, ◌++◌, ℕ, zero, suc, ◌+◌, ltb, eqb, pos, neg_ℤ}
use Rattle.written.specs.Bytes.{quote, comma, part}
use Rattle.written.specs.Said.{Ref, node, pdf, Line, Body, lone, braces, Tree, Question}
use Rattle.link_order.specs.Keys.{name_at}
use Rattle.table_rows.specs.Rows.{question_first, question_patterns, pattern_rows, pattern_start, pattern_len, tree_state, tree_first, tree_records, tree_lines, record_question, record_pdf, record_yes, record_no}
use Rattle.write_records.specs.Records.{of_record}

-- n things by their number, from thing k on
unfoldable pub each : {A : Type 0} → (ℕ → A) → ℕ → ℕ → List A
each g k zero = []
each g k (suc n) = g k ∷ each g (suc k) n

-- ---- questions; d is the data that string starts count in

-- pattern k of those from row f on
unfoldable pub pattern_of : List ℕ → List ℕ → ℕ → ℕ → List ℕ
pattern_of d P f k = cond (ltb (f + k) (pattern_rows P)) (part d (pattern_start P (f + k)) (pattern_len P (f + k))) []

-- one of them in quotes, and what stands before the next
abbrev pub quoted : List ℕ → Bool → List ℕ
quoted w more = quote ∷ (w ++ cond more (quote ∷ comma ∷ 32 ∷ []) (quote ∷ []))

abbrev pub question_of : List ℕ → List ℕ → List ℕ → ℕ → Question
question_of d Q P q = record { name = name_at d Q q; patterns = each (pattern_of d P (question_first Q q)) 0 (question_patterns Q q) }

-- ---- records of a tree whose first stands in row f

-- a reference to record k of a tree with n lines: a line by its id, a leaf by its PDF number
unfoldable pub ref_of : List ℕ → ℕ → ℕ → ℕ → Ref
ref_of R f n k = cond (ltb k n) (node (neg_ℤ (pos k))) (pdf (of_record record_pdf R f k))

abbrev pub line_of : List ℕ → List ℕ → List ℕ → ℕ → ℕ → ℕ → Line
line_of d Q R f n k =
    record { id = neg_ℤ (pos k); question = name_at d Q (of_record record_question R f k); no = ref_of R f n (of_record record_no R f k); yes = ref_of R f n (of_record record_yes R f k) }

-- m records of which n are lines
unfoldable pub body_of : List ℕ → List ℕ → List ℕ → ℕ → ℕ → ℕ → Body
body_of d Q R f m n = cond (eqb n 0) (cond (eqb m 0) (braces []) (lone (pdf (of_record record_pdf R f 0)))) (braces (each (line_of d Q R f n) 0 n))

abbrev pub tree_of : List ℕ → List ℕ → List ℕ → List ℕ → ℕ → Tree
tree_of d Q T R t = record { state = pos (tree_state T t); body = body_of d Q R (tree_first T t) (tree_records T t) (tree_lines T t) }
