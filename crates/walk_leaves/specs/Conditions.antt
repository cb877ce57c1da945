-- What the leaf check asks of loaded tables (01, 'Linking and tables'; 02, Wishes 3 and 10): for each tree its records, their questions and its values at
-- the width given stand inside their tables; each yes and no inside its records; kinds are 0 or 1; and every leaf's number is at least 1 and at most its
-- entry count. Ranges are judged by their members; questions, yes and no on lines alone.
use Rattle.std.specs.Prelude.{◌≡◌, Bool, true, ◌&&◌, List, ℕ, ◌+◌, ◌*◌, ◌≤◌, ◌<◌, leb, length}
use Rattle.table_rows.specs.Rows.{question_there, tree_there, tree_first, tree_records, record_there, record_kind, record_question, record_pdf, record_yes, record_no, tree_value, tree_entries}

-- a leaf's number is that of one of the entries of its tree's block: they count from 1
abbrev pub leaf_fits : ℕ → ℕ → Bool
leaf_fits number entries = leb 1 number && leb number entries

module _ (questions records : List ℕ) where
  -- a line at row i, in a tree of so many records
  pub record LineStands (count i : ℕ) : Type 0 where
    pub question : question_there questions (record_question records i) ≡ true
    pub yes_record : record_yes records i < count
    pub no_record : record_no records i < count

  -- a record at row i, in a tree of so many records whose block has so many entries, a leaf by the test that is given
  pub data RecordStands (fits : ℕ → ℕ → Bool) (count entries i : ℕ) : Type 0 where
    line : record_kind records i ≡ 0 → LineStands count i → RecordStands fits count entries i
    leaf : record_kind records i ≡ 1 → fits (record_pdf records i) entries ≡ true → RecordStands fits count entries i

-- so many entries of so many values, from `first` on
pub record ValuesStand (values : List ℕ) (first entries width : ℕ) : Type 0 where
  pub each : (v : ℕ) → v < entries * width → first + v < length values

-- tree t
pub record TreeStands (fits : ℕ → ℕ → Bool) (questions trees records values : List ℕ) (width t : ℕ) : Type 0 where
  pub values_there : ValuesStand values (tree_value trees t) (tree_entries trees t) width
  pub inside : (k : ℕ) → k < tree_records trees t → record_there records (tree_first trees t) (tree_records trees t) k ≡ true
  pub each : (k : ℕ) → k < tree_records trees t → RecordStands questions records fits (tree_records trees t) (tree_entries trees t) (tree_first trees t + k)

-- all trees, their leaves by the test that is given
pub record LeavesFitBy (fits : ℕ → ℕ → Bool) (questions trees records values : List ℕ) (width : ℕ) : Type 0 where
  pub each : (t : ℕ) → tree_there trees t ≡ true → TreeStands fits questions trees records values width t

-- what the check asks
abbrev pub LeavesFit : List ℕ → List ℕ → List ℕ → List ℕ → ℕ → Type 0
LeavesFit = LeavesFitBy leaf_fits

-- 01's conditions, in which a leaf is at most its entry count
abbrev pub FormerlyFit : List ℕ → List ℕ → List ℕ → List ℕ → ℕ → Type 0
FormerlyFit = LeavesFitBy leb

-- every leaf of every tree is at least 1
pub record FromOne (trees records : List ℕ) : Type 0 where
  pub each : (t : ℕ) → tree_there trees t ≡ true → (k : ℕ) → k < tree_records trees t → record_kind records (tree_first trees t + k) ≡ 1 → 1 ≤ record_pdf records (tree_first trees t + k)
