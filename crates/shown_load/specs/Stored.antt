-- What stands in the tables after a load that is done, and what a load is refused for, in the words of `written`: the tree text and the block of the model that was
-- chosen say what they say, and every row and value is theirs.
use Rattle.std.specs.Prelude.{◌≡◌, ℕ, ◌*◌, pos, length, take, drop, replicate, Ok}
use mathlib.Core.List.{List, flatten}
use Rattle.std.proofs.lemmas.List.Edits.{sets}
use Rattle.written.specs.Said.{Text, Layout}
use Rattle.written.specs.TreeText.{Says}
use Rattle.written.specs.Linking.{Row}
use Rattle.written.specs.Tables.{TreeRows, folded, ModelRefused, Negative, question_rows, pattern_rows}
use Rattle.written.specs.Blocks as block
use Rattle.pdf_widen.specs.Widening.{widen_of}
use Rattle.error.specs.Numbers.{number_of, place_of, line_of}
use Rattle.error.specs.declared.Refusal.{Refusal}
use Rattle.head_record.specs.declared.Header.{Header}
use Rattle.load_choose.specs.declared.Which.{Which}
use Rattle.load_plan.specs.Plans.{data_of, planned}
use Rattle.load_plan.specs.declared.Plan.{Plan}
use Rattle.load_model.specs.Load.{loaded, Tables, After}

-- the plan p is that of the model asked for; its tree text says t, laid out as l, and no state is negative
pub record Chose (s : List ℕ) (h : Header) (which : Which) (p : Plan) (t : Text) (l : Layout) : Type 0 where
  pub plan : Ok p ≡ planned s h which
  pub says : Says (take p.text_end (data_of s h)) p.text t l
  pub natural : ¬ Negative t.trees
  pub questions : p.questions ≡ length t.questions
  pub trees : p.trees ≡ length t.trees

-- a load that is done: every table with its rows in front and the rest as before, the work zero. A tree's row is what the text says of the tree (`tree-rows`, four numbers) and what
-- the block says of it (`block-rows`)
pub record Stored (s : List ℕ) (h : Header) (which : Which) (L : Tables) (x : After) : Type 0 where
  pub p : Plan
  pub t : Text
  pub l : Layout
  pub chose : Chose s h which p t l
  pub tree_rows : List Row
  pub record_rows : List Row
  pub block_rows : List block.Row
  pub read : List ℕ
  pub linked : TreeRows t.questions 0 t.trees tree_rows record_rows
  pub block : block.Block (widen_of 8 23 11 52) p.trees p.width (drop p.block (take p.block_end (data_of s h))) block_rows read
  pub tree_count : p.trees ≡ length tree_rows
  pub block_count : length block_rows ≡ length tree_rows
  pub record_count : p.records ≡ length record_rows
  pub counts : x.answer ≡ loaded p.questions p.patterns p.trees p.records (p.entries * p.width)
  pub at_questions : x.tables.questions ≡ sets L.questions 0 (flatten (question_rows 0 l.questions))
  pub at_patterns : x.tables.patterns ≡ sets L.patterns 0 (flatten (pattern_rows l.questions))
  pub at_trees : x.tables.trees ≡ sets L.trees 0 (flatten (folded tree_rows block_rows))
  pub at_records : x.tables.records ≡ sets L.records 0 (flatten record_rows)
  pub at_values : x.tables.values ≡ sets L.values 0 read
  pub at_work : x.tables.work ≡ replicate (length L.work) (pos 0)

-- a load that linking refuses: with the number, the tree and the line of the text's first fault
pub record Unlinked (s : List ℕ) (h : Header) (which : Which) (y : Refusal) : Type 0 where
  pub p : Plan
  pub t : Text
  pub l : Layout
  pub chose : Chose s h which p t l
  pub refused : ModelRefused t.questions t.trees (number_of y) (place_of y) (line_of y)
