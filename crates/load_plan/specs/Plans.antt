-- What a model needs, stage by stage in 01's order: which model; its tree text in its range (16), in the grammar (17), no state negative (18); its block in its
-- range (16) and used up (19).
use Rattle.tree_survey.specs.declared.SurveyError.TheVariants as fault
use Rattle.tree_survey.specs.declared.SurveyError.{SurveyError}
use Rattle.tree_survey.specs.declared.Survey.{Survey}
use Rattle.std.specs.Prelude.{◌≡◌, List, ℕ, ◌≤◌, length, take, Err, None, Ok, Some, Option, Result}
use Rattle.written.specs.Bytes.{part}
use Rattle.laws.specs.Steps.{Ending, done_at, broken_at}
use Rattle.error.specs.declared.Refusal.TheVariants as refusal
use Rattle.head_record.specs.declared.Header.{Header}
use Rattle.tree_question.specs.Questions.{questions_at}
use Rattle.tree_survey.specs.Survey.{survey_at}
use Rattle.pdf_blocks.specs.Values.{block_at}
use Rattle.load_choose.specs.Chosen.{chosen_of}
use Rattle.load_range.specs.Ranges.{within_of}
use Rattle.load_choose.specs.declared.Which.{Which}
use Rattle.load_plan.specs.declared.Plan.{Plan}
use Rattle.load_range.specs.declared.Bounds.{Bounds}
use Rattle.load_choose.specs.declared.Chosen.{Chosen}
use Rattle.error.specs.declared.Refusal.{Refusal}
use Rattle.load_plan.specs.declared.Text.{Text}

-- a text that was read: its first tree, and what is counted of it
abbrev pub read_as : ℕ → ℕ → ℕ → ℕ → ℕ → ℕ → Result Text Refusal
read_as f q p t r l = Ok (record { first = f; questions = q; patterns = p; trees = t; records = r; lines = l })

-- ---- the tree text

-- the survey, and where the first tree stands
abbrev pub placed : Ending → Result Survey SurveyError → Result Text Refusal
placed (done_at f) (Ok x) = read_as f x.questions x.patterns x.trees x.records x.lines
placed (broken_at f) (Ok x) = Err (refusal.Text f)
placed e (Err (fault.Broken i)) = Err (refusal.Text i)
placed e (Err fault.Negative) = Err refusal.State

unfoldable pub text_of : List ℕ → ℕ → Result Text Refusal
text_of s i = placed (questions_at s i).ending (survey_at s i)

-- ---- the block

abbrev pub with_entries : Plan → ℕ → Plan
with_entries p n =
    record {
      text = p.text;
      text_end = p.text_end;
      first = p.first;
      questions = p.questions;
      patterns = p.patterns;
      trees = p.trees;
      records = p.records;
      lines = p.lines;
      block = p.block;
      block_end = p.block_end;
      width = p.width;
      entries = n;
    }

abbrev pub entries_for : Plan → Option ℕ → Result Plan Refusal
entries_for p (Some n) = Ok (with_entries p n)
entries_for p None = Err refusal.Block

unfoldable pub entries_of : List ℕ → Plan → Result Plan Refusal
entries_of s p = entries_for p (block_at p.trees p.width s p.block)

-- a text from a up to e, whose first tree stands at f, and a block of width w from b up to c
abbrev pub plan_for : ℕ → ℕ → ℕ → ℕ → ℕ → ℕ → ℕ → ℕ → ℕ → ℕ → ℕ → Plan
plan_for a e f q p t r l w b c =
    record {
      text = a;
      text_end = e;
      first = f;
      questions = q;
      patterns = p;
      trees = t;
      records = r;
      lines = l;
      block = b;
      block_end = c;
      width = w;
      entries = 0;
    }

abbrev pub block_in : List ℕ → ℕ → ℕ → ℕ → ℕ → ℕ → ℕ → ℕ → ℕ → ℕ → Option Bounds → Result Plan Refusal
block_in d a e f q p t r l w (Some b) = entries_of (take b.end d) (plan_for a e f q p t r l w b.start b.end)
block_in d a e f q p t r l w None = Err refusal.Range

abbrev pub block_of : List ℕ → ℕ → ℕ → Result Text Refusal → ℕ → ℕ → ℕ → Result Plan Refusal
block_of d a e (Ok t) x y w = block_in d a e t.first t.questions t.patterns t.trees t.records t.lines w (within_of x y (length d))
block_of d a e (Err r) x y w = Err r

-- ---- the model

abbrev pub plan_in : List ℕ → ℕ → ℕ → ℕ → Option Bounds → Result Plan Refusal
plan_in d x y w (Some b) = block_of d b.start b.end (text_of (take b.end d) b.start) x y w
plan_in d x y w None = Err refusal.Range

-- a tree range from u to v, a block range from x to y, in the data d
unfoldable pub plan_of : List ℕ → ℕ → ℕ → ℕ → ℕ → ℕ → Result Plan Refusal
plan_of d u v x y w = plan_in d x y w (within_of u v (length d))

abbrev pub data_of : List ℕ → Header → List ℕ
data_of s h = part s h.data_start h.data_len

abbrev pub planned_for : List ℕ → Result Chosen Refusal → Result Plan Refusal
planned_for d (Ok m) = plan_of d m.tree_from m.tree_to m.pdf_from m.pdf_to m.width
planned_for d (Err r) = Err r

unfoldable pub planned : List ℕ → Header → Which → Result Plan Refusal
planned s h w = planned_for (data_of s h) (chosen_of s h w)

-- ---- what a plan in the data d says

pub record Sound (d : List ℕ) (p : Plan) : Type 0 where
  pub text : read_as p.first p.questions p.patterns p.trees p.records p.lines ≡ text_of (take p.text_end d) p.text
  pub begins : p.block ≤ length (take p.block_end d)
  pub block : block_at p.trees p.width (take p.block_end d) p.block ≡ Some p.entries
