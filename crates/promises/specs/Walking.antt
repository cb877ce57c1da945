-- What `larsavim_walk`, `larsavim_leaves`, `larsavim_walk_jobs`, `larsavim_answers` and `larsavim_depth` promise, of any tables.
use Rattle.std.specs.Prelude.{◌≡◌, List, [], ◌∷◌, ℕ, ◌≤◌, ◌<◌, ℤ, pos, length, drop, replicate}
use Rattle.std.proofs.lemmas.List.Edits.{sets}
use Rattle.written.specs.Matching.{Answered}
use Rattle.written.specs.Walks.{Ending, at, limit, nothing, Outcome, refused, LoadedTree}
use Rattle.written.specs.Depths.{DepthSaid, TreeDepth}
use Rattle.table_rows.specs.Rows.{question_table, pattern_table, tree_table, record_table}
use Rattle.walk_leaves.specs.Conditions.{LeavesFit}
use Rattle.face_jobs.specs.declared.Job.{Job}

-- number, PDF number, questions asked
pub data AfterWalk (trees records : List ℕ) (tree : ℕ) (answers : List ℕ) (most : ℕ) (out : List ℕ) : ℕ → List ℕ → Type 0 where
  short_out : length out < 3 → AfterWalk trees records tree answers most out 20 out
  ended : {n k : ℕ} → 3 ≤ length out → LoadedTree answers (tree_table trees) (record_table records) tree most (Outcome.at n k)
      → AfterWalk trees records tree answers most out 0 (sets out 0 (0 ∷ n ∷ k ∷ []))
  stopped : {c : ℕ} → 3 ≤ length out → LoadedTree answers (tree_table trees) (record_table records) tree most (refused c)
      → AfterWalk trees records tree answers most out c (sets out 0 (c ∷ 0 ∷ 0 ∷ []))

-- the answer of a walk that ends as the written one does
abbrev pub ending_numbers : Ending → List ℕ
ending_numbers (Ending.at n k) = 0 ∷ n ∷ k ∷ []
ending_numbers limit = 25 ∷ 0 ∷ 0 ∷ []
ending_numbers nothing = 24 ∷ 0 ∷ 0 ∷ []

-- ---- larsavim_leaves: 1 exactly where every record and every leaf of the tables fits (01's leaf check, leaves from 1 on by 02, Wish 3), else 0

pub data AfterLeaves (questions trees records values : List ℕ) (width : ℕ) : ℕ → Type 0 where
  fits : LeavesFit questions trees records values width → AfterLeaves questions trees records values width 1
  fits_not : ¬ LeavesFit questions trees records values width → AfterLeaves questions trees records values width 0

-- ---- larsavim_walk_jobs (02, Wish 5): tree, limit and start stay; number, PDF number and questions asked are those of one walk

-- what a walk says
pub data WalkSays (trees records : List ℕ) (tree : ℕ) (answers : List ℕ) (most : ℕ) : ℕ → ℕ → ℕ → Type 0 where
  ended : {n k : ℕ} → LoadedTree answers (tree_table trees) (record_table records) tree most (Outcome.at n k) → WalkSays trees records tree answers most 0 n k
  stopped : {c : ℕ} → LoadedTree answers (tree_table trees) (record_table records) tree most (refused c) → WalkSays trees records tree answers most c 0 0

-- a job after the call: 24 for a start past the answers, else the walk over the answers from there to their end
pub data JobDone (trees records answers : List ℕ) (before after : Job) : Type 0 where
  past : length answers < before.start → after.tree ≡ before.tree → after.limit ≡ before.limit → after.start ≡ before.start
      → after.number ≡ 24 → after.pdf ≡ 0 → after.asked ≡ 0 → JobDone trees records answers before after
  walked : before.start ≤ length answers → after.tree ≡ before.tree → after.limit ≡ before.limit → after.start ≡ before.start
      → WalkSays trees records before.tree (drop before.start answers) before.limit after.number after.pdf after.asked → JobDone trees records answers before after

-- ---- larsavim_answers (02, Wish 1): number, and the answer slice after it

abbrev pub AfterAnswers : List ℕ → List ℕ → List ℕ → List ℕ → List ℕ → ℕ → List ℕ → Type 0
AfterAnswers label questions patterns d before = Answered (pattern_table patterns) d label (question_table questions) before

-- ---- larsavim_depth (02, Wish 8): number, answer, questions; the work is zero after all but 20

abbrev pub depth_numbers : DepthSaid → List ℕ
depth_numbers x = x.number ∷ x.answer ∷ x.questions ∷ []

pub data AfterDepth (trees records : List ℕ) (tree : ℕ) (work : List ℤ) (out : List ℕ) : ℕ → List ℤ → List ℕ → Type 0 where
  short_out : length out < 3 → AfterDepth trees records tree work out 20 work out
  -- 20
  short_work : {x : DepthSaid} → 3 ≤ length out → TreeDepth (tree_table trees) (record_table records) (length work) tree x → x.number ≡ 20
      → AfterDepth trees records tree work out 20 work (sets out 0 (depth_numbers x))
  -- 0 or 24
  told : {x : DepthSaid} → 3 ≤ length out → TreeDepth (tree_table trees) (record_table records) (length work) tree x → ¬ (x.number ≡ 20)
      → AfterDepth trees records tree work out x.number (replicate (length work) (pos 0)) (sets out 0 (depth_numbers x))
