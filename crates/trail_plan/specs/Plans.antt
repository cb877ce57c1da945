-- What one tree of a model needs, reached through the rows of a trailer, stage by stage (02, Wish 7): the record (16); the rows (26, 28); which model (13 to 15, 12); its
-- tree text in its range (16); the tree's row (24); the questions and that tree alone in the grammar (17), its state not negative (18); the block in its range (16) and
-- used up by as many trees as the model has rows (19). A plan of one tree is that of a model whose first tree is this one and whose block begins at its values.
use Rattle.tree_survey_questions.specs.declared.Questions.{Questions}
use Rattle.text_parts.specs.declared.Read.{Read}
use Rattle.std.specs.Prelude.{◌≡◌, cond, List, ℕ, ◌+◌, ◌*◌, ◌≤◌, ◌<◌, length, take, Err, None, Ok, Some, Option, Result}
use Rattle.written.specs.Blocks.{total}
use Rattle.laws.specs.Totals as totals
use Rattle.error.specs.declared.Refusal.TheVariants as refusal
use Rattle.head_record.specs.declared.Header.{Header}
use Rattle.head_record_fits.specs.Fits.{record_fits}
use Rattle.tree_question.specs.Questions.{questions_at}
use Rattle.tree_survey_questions.specs.Counts.{pattern_count, questions_counted}
use Rattle.tree_body.specs.Trees.{head_at, tree_step_at}
use Rattle.tree_survey.specs.Survey.{body_records, body_lines, tree_surveyed}
use Rattle.tree_survey.specs.declared.TreeSurvey.{TreeSurvey}
use Rattle.tree_survey.specs.declared.TreeSurvey.TheVariants as tree
use Rattle.pdf_blocks.specs.Values.{word_at, words_at, block_at}
use Rattle.load_choose.specs.Chosen.{chosen_of}
use Rattle.load_range.specs.Ranges.{within_of}
use Rattle.load_choose.specs.declared.Which.{Which}
use Rattle.load_questions.specs.Words.{Done}
use Rattle.load_trees.specs.Trees.{head_body, Whole}
use Rattle.load_plan.specs.Plans.{read_as, plan_for, data_of}
use Rattle.load_plan.specs.declared.Plan.{Plan}
use Rattle.trail_find.specs.Rows.{trail_at, offsets_at, nth_of}
use Rattle.load_range.specs.declared.Bounds.{Bounds}
use Rattle.load_choose.specs.declared.Chosen.{Chosen}
use Rattle.error.specs.declared.Refusal.{Refusal}
use Rattle.load_plan.specs.declared.Text.{Text}
use Rattle.trail_find.specs.declared.Trail.{Trail}

-- ---- the questions from i on, and the tree at f

abbrev pub tree_for : ℕ → ℕ → ℕ → TreeSurvey → Result Text Refusal
tree_for f q p (tree.Next b r l j) = cond b (Err refusal.State) (read_as f q p 1 r l)
tree_for f q p (tree.Last b r l) = cond b (Err refusal.State) (read_as f q p 1 r l)
tree_for f q p (tree.Broken j) = Err (refusal.Text j)

abbrev pub asked_for : List ℕ → ℕ → Result (Read Questions) ℕ → Result Text Refusal
asked_for s f (Ok r) = tree_for f r.value.questions r.value.patterns (tree_surveyed (tree_step_at s f))
asked_for s f (Err j) = Err (refusal.Text j)

unfoldable pub tree_text_of : List ℕ → ℕ → ℕ → Result Text Refusal
tree_text_of s i f = asked_for s f (questions_counted 0 0 (questions_at s i))

-- ---- the block

-- of tree k in a block of n trees: its values begin at v, and it has m entries
abbrev pub with_tree : Plan → ℕ → ℕ → Plan
with_tree p v m =
    record {
      text = p.text;
      text_end = p.text_end;
      first = p.first;
      questions = p.questions;
      patterns = p.patterns;
      trees = p.trees;
      records = p.records;
      lines = p.lines;
      block = v;
      block_end = p.block_end;
      width = p.width;
      entries = m;
    }

-- where the values of tree k begin: behind the counts of n trees and the entries of those before it
abbrev pub values_from : List ℕ → ℕ → ℕ → ℕ → ℕ → ℕ
values_from s b w n k = b + 4 * n + 4 * (total (words_at s b k) * w)

abbrev pub entries_for : List ℕ → Plan → ℕ → ℕ → Option ℕ → Result Plan Refusal
entries_for s p n k (Some e) = Ok (with_tree p (values_from s p.block p.width n k) (word_at s (p.block + 4 * k)))
entries_for s p n k None = Err refusal.Block

unfoldable pub entries_of : List ℕ → Plan → ℕ → ℕ → Result Plan Refusal
entries_of s p n k = entries_for s p n k (block_at n p.width s p.block)

abbrev pub block_in : List ℕ → ℕ → ℕ → ℕ → ℕ → ℕ → ℕ → ℕ → ℕ → ℕ → ℕ → ℕ → Option Bounds → Result Plan Refusal
block_in d a e f q p t r l w n k (Some b) = entries_of (take b.end d) (plan_for a e f q p t r l w b.start b.end) n k
block_in d a e f q p t r l w n k None = Err refusal.Range

abbrev pub block_of : List ℕ → ℕ → ℕ → Result Text Refusal → ℕ → ℕ → ℕ → ℕ → ℕ → Result Plan Refusal
block_of d a e (Ok t) x y w n k = block_in d a e t.first t.questions t.patterns t.trees t.records t.lines w n k (within_of x y (length d))
block_of d a e (Err r) x y w n k = Err r

-- ---- the tree

-- 24: the model has no such row
abbrev pub row_in : List ℕ → ℕ → ℕ → ℕ → ℕ → ℕ → ℕ → ℕ → Option ℕ → Result Plan Refusal
row_in d a e x y w n k (Some f) = block_of d a e (tree_text_of (take e d) a f) x y w n k
row_in d a e x y w n k None = Err refusal.WalkTable

abbrev pub text_in : List ℕ → ℕ → ℕ → ℕ → ℕ → ℕ → Option ℕ → Option Bounds → Result Plan Refusal
text_in d x y w n k o (Some b) = row_in d b.start b.end x y w n k o
text_in d x y w n k o None = Err refusal.Range

-- where there is a k-th of n rows, k is below n
pub record RowOf (n k : ℕ) (o : Option ℕ) : Type 0 where
  pub inside : (f : ℕ) → o ≡ Some f → k < n

-- tree k of a model with n rows, whose k-th row, if there is one, is o
unfoldable pub tree_of : List ℕ → ℕ → ℕ → ℕ → ℕ → ℕ → ℕ → ℕ → Option ℕ → Result Plan Refusal
tree_of d u v x y w n k o = text_in d x y w n k o (within_of u v (length d))

-- by the offsets in the model's rows
abbrev pub chosen_tree : List ℕ → List ℕ → ℕ → Result Chosen Refusal → Result Plan Refusal
chosen_tree d os k (Ok m) = tree_of d m.tree_from m.tree_to m.pdf_from m.pdf_to m.width (length os) k (nth_of os k)
chosen_tree d os k (Err r) = Err r

abbrev pub trail_tree : List ℕ → Header → Which → ℕ → ℕ → Result Trail Refusal → Result Plan Refusal
trail_tree s h w m k (Ok t) = chosen_tree (data_of s h) (offsets_at s m t.begin t.count) k (chosen_of s h w)
trail_tree s h w m k (Err r) = Err r

-- tree k of the model w, whose number in rows is m
unfoldable pub tree_planned : List ℕ → Header → Which → ℕ → ℕ → Result Plan Refusal
tree_planned s h w m k = cond (record_fits (length s) h) (trail_tree s h w m k (trail_at s h.data_len)) (Err refusal.Range)

-- ---- what a plan of one tree in the data d says

pub record SoundTree (d : List ℕ) (p : Plan) : Type 0 where
  pub asked : Done (questions_at (take p.text_end d) p.text)
  pub questions : p.questions ≡ length (questions_at (take p.text_end d) p.text).items
  pub patterns : p.patterns ≡ totals.total pattern_count (questions_at (take p.text_end d) p.text).items
  pub whole : Whole (take p.text_end d) (head_at (take p.text_end d) p.first)
  pub trees : p.trees ≡ 1
  pub records : p.records ≡ body_records (head_body (take p.text_end d) (head_at (take p.text_end d) p.first))
  pub lines : p.lines ≡ body_lines (head_body (take p.text_end d) (head_at (take p.text_end d) p.first))
  pub values : p.block + 4 * (p.entries * p.width) ≤ length (take p.block_end d)
