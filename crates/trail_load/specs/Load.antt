-- What the load of one tree through a trailer answers, and each lent slice after it, by the file's bytes, the record, the other task's bounds and the slices before it (02,
-- Wishes 7, 9 and 10). Refusals up to 20, 24, 26 and 28 leave the slices as they were; 21 to 23 leave the rows needed zero, and all of the work.
use Rattle.std.specs.Prelude.{cond, List, [], ◌∷◌, ℕ, ◌+◌, ◌*◌, ◌≤◌, pos, length, replicate, take, Err, Ok, Result, ⊤}
use Rattle.written.specs.Blocks as written
use Rattle.written.specs.Sharing.{Side, Held, seen}
use Rattle.error.specs.declared.Refusal.TheVariants as refusal
use Rattle.head_record.specs.declared.Header.{Header}
use Rattle.tree_question.specs.Questions.{questions_at}
use Rattle.pdf_blocks.specs.Values.{values_at}
use Rattle.load_choose.specs.declared.Which.{Which}
use Rattle.load_plan.specs.Plans.{data_of}
use Rattle.load_plan.specs.declared.Plan.{Plan}
use Rattle.load_questions.specs.Words.{pattern_words}
use Rattle.load_text.specs.Text.{words_at, kept}
use Rattle.load_model.specs.Load.{Tables, lent, After, answer_for, kept_trees, untouched, Is}
use Rattle.load_shared.specs.Beside.{rows_of, with_work, put_back, room_by}
use Rattle.load_bounds.specs.Bounds.{need_of}
use Rattle.trail_link.specs.One.{one_result, one_end, one_row}
use Rattle.trail_plan.specs.Plans.{tree_planned}
use Rattle.load_model.specs.declared.Loaded.{Loaded}
use Rattle.error.specs.declared.Refusal.{Refusal}
use Rattle.load_trees.specs.declared.TreeFault.{TreeFault}

-- what a tree finds in its row and among the values, in the bytes s
pub record ValueRoom (s : List ℕ) (p : Plan) (trees values : ℕ) : Type 0 where
  pub inside : p.block + 4 * (p.entries * p.width) ≤ length s
  pub row : 6 ≤ trees
  pub room : p.entries * p.width ≤ values

-- what is said of the values of one tree: its values are the first
abbrev pub only_block : Plan → List written.Row
only_block p = (record { first = 0; entries = p.entries }) ∷ []

-- where linking ends so, with the text s from i on, the tree at f, and the values in b
abbrev pub tree_filled_by : Plan → List ℕ → ℕ → ℕ → List ℕ → Result ⊤ TreeFault → Tables → After
tree_filled_by p s i f b e T =
    record {
      answer = answer_for p e;
      tables =
          lent (kept e T.questions (words_at s i)) (kept e T.patterns (pattern_words (questions_at s i).items)) (kept_trees e T.trees (one_row s i f) (only_block p))
          (kept e T.records (one_result s i f).rows) (kept e T.values (values_at b p.block p.width p.entries)) (replicate (length T.work) (pos 0));
    }

-- a plan of tree k in the data d
unfoldable pub tree_filled : List ℕ → ℕ → Plan → Tables → After
tree_filled d k p =
    tree_filled_by p (take p.text_end d) p.text p.first (take p.block_end d) (one_end (take p.text_end d) p.text p.first k)

-- into a task's own rows
unfoldable pub tree_placed_in : Side → List ℕ → ℕ → Plan → Tables → After
tree_placed_in x d k p T = put_back x p T (tree_filled d k p (with_work (seen x (need_of p) (rows_of T)) T.work))

abbrev pub tree_beside_for : Side → Held → List ℕ → ℕ → Result Plan Refusal → Tables → After
tree_beside_for x other d k (Err z) T = untouched z T
tree_beside_for x other d k (Ok p) T = cond (room_by p other T) (tree_placed_in x d k p T) (untouched refusal.Room T)

-- of a task that holds nothing: tree k of the model w, whose number in the rows is m
unfoldable pub tree_beside : Side → List ℕ → Header → Which → ℕ → ℕ → Held → Tables → After
tree_beside x s h w m k other T = tree_beside_for x other (data_of s h) k (tree_planned s h w m k) T

-- ---- the contracts

abbrev pub FillsTree : List ℕ → ℕ → Plan → Tables → Result Loaded Refusal → Tables → Type 0
FillsTree d k p T = Is (tree_filled d k p T)

abbrev pub FillsOwnTree : Side → List ℕ → ℕ → Plan → Tables → Result Loaded Refusal → Tables → Type 0
FillsOwnTree x d k p T = Is (tree_placed_in x d k p T)

abbrev pub LoadsTree : Side → List ℕ → Header → Which → ℕ → ℕ → Held → Tables → Result Loaded Refusal → Tables → Type 0
LoadsTree x s h w m k other T = Is (tree_beside x s h w m k other T)
