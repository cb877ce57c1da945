-- One tree loaded through a trailer beside the whole model, in the words of `written` (02, Wish 7): which rows reach a text's trees, and what stands in the tables after the load
-- of tree k, by the rows that a full load of the model has.
use Rattle.std.specs.Prelude.{◌≡◌, ℕ, ◌*◌, pos, length, take, drop, replicate}
use mathlib.Core.List.{List, [], ◌∷◌, map, flatten}
use Rattle.std.proofs.lemmas.List.Edits.{sets}
use Rattle.written.specs.Said.{Layout, TreePlace}
use Rattle.written.specs.Linking.{Nth}
use Rattle.written.specs.Tables.{folded, question_rows, pattern_rows}
use Rattle.head_record.specs.declared.Header.{Header}
use Rattle.load_choose.specs.declared.Which.{Which}
use Rattle.load_model.specs.Load.{loaded, Tables, After}
use Rattle.trail_find.specs.Rows.{rows_from, trail_at, offsets_at}
use Rattle.shown_load.specs.Stored.{Stored}

abbrev pub star_of : TreePlace → ℕ
star_of u = u.star

-- the rows at the file's end that are of model m point at the trees of the layout, one after the other
pub record Reaching (s : List ℕ) (h : Header) (m : ℕ) (l : Layout) : Type 0 where
  pub begin : ℕ
  pub count : ℕ
  pub rows : rows_from begin count ≡ trail_at s h.data_len
  pub stars : offsets_at s m begin count ≡ map star_of l.trees

-- the load of tree k in tables L, by a full load K of the model: the same question and pattern rows, and of row k of the trees (state, first record, records, lines, first value,
-- entries) the row with its records and its values first, just these records, and the values of these entries
pub record OneStored {s : List ℕ} {h : Header} {which : Which} {F : Tables} {X : After} (K : Stored s h which F X) (k : ℕ) (L : Tables) (x : After) : Type 0 where
  pub state : ℕ
  pub first : ℕ
  pub count : ℕ
  pub lines : ℕ
  pub value : ℕ
  pub entries : ℕ
  pub stands : Nth (folded K.tree_rows K.block_rows) k (state ∷ first ∷ count ∷ lines ∷ value ∷ entries ∷ [])
  pub counts : x.answer ≡ loaded K.p.questions K.p.patterns 1 count (entries * K.p.width)
  pub at_questions : x.tables.questions ≡ sets L.questions 0 (flatten (question_rows 0 K.l.questions))
  pub at_patterns : x.tables.patterns ≡ sets L.patterns 0 (flatten (pattern_rows K.l.questions))
  pub at_trees : x.tables.trees ≡ sets L.trees 0 (state ∷ 0 ∷ count ∷ lines ∷ 0 ∷ entries ∷ [])
  pub at_records : x.tables.records ≡ sets L.records 0 (flatten (take count (drop first K.record_rows)))
  pub at_values : x.tables.values ≡ sets L.values 0 (take (entries * K.p.width) (drop value K.read))
  pub at_work : x.tables.work ≡ replicate (length L.work) (pos 0)
