-- What `larsavim_write_needs` and `larsavim_write` promise: what they return, the caller's buffer and `out` after them, by the data's bytes and the rows of the
-- four lent tables. Of a tree's row the first four numbers are looked at.
use Rattle.std.specs.Prelude.{List, [], ◌∷◌, ℕ, ◌≤◌, ◌<◌, length}
use Rattle.std.proofs.lemmas.List.Edits.{sets}
use Rattle.written.specs.Writing.{Measured, Wrote, first_four}
use Rattle.table_rows.specs.Rows.{question_table, pattern_table, tree_table, record_table}

pub data AfterWriteNeeds (d questions patterns trees records out : List ℕ) : ℕ → List ℕ → Type 0 where
  short_out : length out < 2 → AfterWriteNeeds d questions patterns trees records out 20 out
  -- the text's length, or why there is none
  measured : {n k : ℕ} → 2 ≤ length out → Measured d (question_table questions) (pattern_table patterns) (first_four (tree_table trees)) (record_table records) n k
      → AfterWriteNeeds d questions patterns trees records out n (sets out 0 (n ∷ k ∷ []))

pub data AfterWrite (d questions patterns trees records buffer out : List ℕ) : ℕ → List ℕ → List ℕ → Type 0 where
  short_out : length out < 2 → AfterWrite d questions patterns trees records buffer out 20 buffer out
  -- the text at the front of the buffer, or why nothing is written
  wrote : {n k : ℕ} {e : List ℕ} → 2 ≤ length out → Wrote d (question_table questions) (pattern_table patterns) (first_four (tree_table trees)) (record_table records) buffer n k e
      → AfterWrite d questions patterns trees records buffer out n e (sets out 0 (n ∷ k ∷ []))
