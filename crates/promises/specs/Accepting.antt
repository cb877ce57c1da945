-- What `larsavim_accepts` promises, of any text, tree number and rows.
use Rattle.std.specs.Prelude.{List, [], ◌∷◌, ℕ, ◌≤◌, ◌<◌, length}
use Rattle.std.proofs.lemmas.List.Edits.{sets}
use Rattle.written.specs.Linking.{Row, Nth, branch, leaf}
use Rattle.written.specs.Suppliers.{AcceptsIn}
use Rattle.table_rows.specs.Rows.{record_table}

-- number, place, line
pub data AfterAccepts (text : List ℕ) (tree : ℕ) (records out : List ℕ) : ℕ → List ℕ → Type 0 where
  short_out : length out < 3 → AfterAccepts text tree records out 20 out
  judged : {c p k : ℕ} → 3 ≤ length out → AcceptsIn text 0 (record_table records) tree c p k → AfterAccepts text tree records out c (sets out 0 (c ∷ p ∷ k ∷ []))

-- ---- another choice among equal leaves

-- a target stays, or moves to another leaf of the same number
pub data Retargeted (rows : List Row) (y : ℕ) : ℕ → Type 0 where
  stays : Retargeted rows y y
  moves : {y' n : ℕ} → Nth rows y (leaf n) → Nth rows y' (leaf n) → Retargeted rows y y'

-- the row of a line with its targets chosen otherwise
pub data Rechosen (rows : List Row) : Row → Row → Type 0 where
  rechosen : {q y n y' n' : ℕ} → Retargeted rows y y' → Retargeted rows n n' → Rechosen rows (branch q y n) (branch q y' n')
