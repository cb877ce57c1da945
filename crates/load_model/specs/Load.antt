-- What a load into tables of its own answers, and each lent slice after it, by the file's bytes, the record and the slices before it (01, 'Linking and tables'; 02,
-- Wish 10). Refusals up to 20 leave the slices as they were; 21 to 23 leave them zero. `load_shared` loads so into just the rows that a model needs (02, Wish 9).
use Rattle.std.specs.Prelude.{◌≡◌, Bool, cond, ◌&&◌, List, ℕ, ◌+◌, ◌*◌, ◌/◌, ◌≤◌, leb, ℤ, pos, length, replicate, take, Err, Ok, Result, ⊤, Some}
use Rattle.std.proofs.lemmas.List.Edits.{sets}
use Rattle.written.specs.Blocks as written
use Rattle.error.specs.declared.Refusal.{Refusal}
use Rattle.error.specs.declared.Refusal.TheVariants as refusal
use Rattle.head_record.specs.declared.Header.{Header}
use Rattle.tree_question.specs.Questions.{questions_at}
use Rattle.pdf_blocks.specs.Values.{words_at, block_at, values_at}
use Rattle.pdf_values.specs.Folded.{with_blocks}
use Rattle.load_choose.specs.declared.Which.{Which}
use Rattle.load_questions.specs.Words.{pattern_words}
use Rattle.load_trees.specs.Trees.{all_linked}
use Rattle.load_text.specs.Text.{words_at as question_rows, end_at, trees_stored, records_stored, kept}
use Rattle.load_plan.specs.Plans.{data_of, planned}
use Rattle.load_plan.specs.declared.Plan.{Plan}
use Rattle.load_model.specs.declared.Loaded.{Loaded}
use Rattle.load_trees.specs.declared.TreeFault.{TreeFault}

-- rows of each table, and the values
abbrev pub loaded : ℕ → ℕ → ℕ → ℕ → ℕ → Result Loaded Refusal
loaded q a t r v = Ok (record { questions = q; patterns = a; trees = t; records = r; values = v })

-- what a load is lent: five tables and the work
pub record Tables : Type 0 where
  pub questions : List ℕ
  pub patterns : List ℕ
  pub trees : List ℕ
  pub records : List ℕ
  pub values : List ℕ
  pub work : List ℤ

-- in the order in which the calls take them
abbrev pub lent : List ℕ → List ℕ → List ℕ → List ℕ → List ℕ → List ℤ → Tables
lent questions patterns trees records values work =
    record { questions = questions; patterns = patterns; trees = trees; records = records; values = values; work = work }

-- the answer, and what was lent after the call
pub record After : Type 0 where
  pub answer : Result Loaded Refusal
  pub tables : Tables

-- ---- 20: tables of so many words have the rows that a plan needs, length div width of each

unfoldable pub room_for : Plan → ℕ → ℕ → ℕ → ℕ → ℕ → ℕ → Bool
room_for p questions patterns trees records values work =
    leb p.questions (questions / 4) && leb p.patterns (patterns / 2) && leb p.trees (trees / 6) && leb p.records (records / 4)
    && leb (p.entries * p.width) values && leb p.lines (work / 6)

abbrev pub room_in : Plan → Tables → Bool
room_in p T = room_for p (length T.questions) (length T.patterns) (length T.trees) (length T.records) (length T.values) (length T.work)

-- what the block of a plan, in the bytes s, finds in the rows of the trees and among the values
pub record BlockRoom (s : List ℕ) (p : Plan) (trees values : ℕ) : Type 0 where
  pub begins : p.block ≤ length s
  pub fits : block_at p.trees p.width s p.block ≡ Some p.entries
  pub rows : 6 * p.trees ≤ trees
  pub room : p.entries * p.width ≤ values

-- ---- the answer

abbrev pub answer_for : Plan → Result ⊤ TreeFault → Result Loaded Refusal
answer_for p (Ok _) = loaded p.questions p.patterns p.trees p.records (p.entries * p.width)
answer_for p (Err l) = Err (refusal.Unlinked l.fault l.tree l.line)

-- ---- what was lent

-- what the block of a plan, in the bytes b, says of each tree
abbrev pub blocks_of : Plan → List ℕ → List written.Row
blocks_of p b = written.rows_from p.width 0 (words_at b p.block p.trees)

-- the tree table after linking: with the text's words in front and the blocks set into their rows, or zero where it is refused
abbrev pub kept_trees : Result ⊤ TreeFault → List ℕ → List ℕ → List written.Row → List ℕ
kept_trees o t words bs = cond (all_linked o) (with_blocks (sets t 0 words) 0 bs) (replicate (length t) 0)

-- where linking ends so, with the text s from i on, its trees from f on, and the block b of the plan
abbrev pub filled_by : Plan → List ℕ → ℕ → ℕ → List ℕ → Result ⊤ TreeFault → Tables → After
filled_by p s i f b e T =
    record {
      answer = answer_for p e;
      tables =
          lent (kept e T.questions (question_rows s i)) (kept e T.patterns (pattern_words (questions_at s i).items)) (kept_trees e T.trees (trees_stored s i f) (blocks_of p b))
          (kept e T.records (records_stored s i f)) (kept e T.values (values_at b (p.block + 4 * p.trees) p.width p.entries)) (replicate (length T.work) (pos 0));
    }

-- a plan in the data d
unfoldable pub filled : List ℕ → Plan → Tables → After
filled d p = filled_by p (take p.text_end d) p.text p.first (take p.block_end d) (end_at (take p.text_end d) p.text p.first)

-- everything lent as it was
abbrev pub untouched : Refusal → Tables → After
untouched r T = record { answer = Err r; tables = T }

abbrev pub load_for : List ℕ → Result Plan Refusal → Tables → After
load_for d (Err r) T = untouched r T
load_for d (Ok p) T = cond (room_in p T) (filled d p T) (untouched refusal.Room T)

unfoldable pub load_of : List ℕ → Header → Which → Tables → After
load_of s h w = load_for (data_of s h) (planned s h w)

-- ---- the contracts: a load answers r and leaves T₁

abbrev pub Is : After → Result Loaded Refusal → Tables → Type 0
Is x r T₁ = (r ≡ x.answer) × (T₁ ≡ x.tables)

abbrev pub Fills : List ℕ → Plan → Tables → Result Loaded Refusal → Tables → Type 0
Fills d p T = Is (filled d p T)

abbrev pub Loads : List ℕ → Header → Which → Tables → Result Loaded Refusal → Tables → Type 0
Loads s h w T = Is (load_of s h w T)
