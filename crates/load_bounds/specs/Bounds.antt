-- A task's bounds, and what a plan needs, as the five counts of 02's Wish 9; whether they stand beside each other in tables of so many numbers;
-- where a task's rows stand in one of them.
use Rattle.std.specs.Prelude.{◌≡◌, Bool, true, false, List, ℕ, ◌+◌, ◌*◌, ◌/◌, ◌≤◌, leb}
use Rattle.written.specs.Sharing.{Side, bottom, top, Table, questions, patterns, trees, records, values, width, whole_rows, Tables, Held, every_table, start_of}
use Rattle.load_plan.specs.declared.Plan.{Plan}
use Rattle.load_bounds.specs.declared.Held.{Held as Bounds}
use Rattle.load_bounds.specs.declared.Parts.{Parts}

abbrev pub side_of : Bool → Side
side_of true = top
side_of false = bottom

abbrev pub held_of : Bounds → Held
held_of h questions = h.questions
held_of h patterns = h.patterns
held_of h trees = h.trees
held_of h records = h.records
held_of h values = h.values

abbrev pub need_of : Plan → Held
need_of p questions = p.questions
need_of p patterns = p.patterns
need_of p trees = p.trees
need_of p records = p.records
need_of p values = p.entries * p.width

abbrev pub tables_of : List ℕ → List ℕ → List ℕ → List ℕ → List ℕ → Tables
tables_of q a t c v questions = q
tables_of q a t c v patterns = a
tables_of q a t c v trees = t
tables_of q a t c v records = c
tables_of q a t c v values = v

-- the same of lengths
abbrev pub lengths_of : ℕ → ℕ → ℕ → ℕ → ℕ → Table → ℕ
lengths_of q a t c v questions = q
lengths_of q a t c v patterns = a
lengths_of q a t c v trees = t
lengths_of q a t c v records = c
lengths_of q a t c v values = v

-- bounds stand beside each other in tables of so many numbers
unfoldable pub stands_at : Held → Held → ℕ → ℕ → ℕ → ℕ → ℕ → Bool
stands_at x y q a t c v = every_table (λ k. leb (x k + y k) (whole_rows (width k) (lengths_of q a t c v k)))

-- from a up to e are the n rows of a task in a table of l numbers, w to a row
pub record Cut (x : Side) (w l n a e : ℕ) : Type 0 where
  pub start : a ≡ start_of x w l n
  pub end : e ≡ a + w * n
  pub room : n ≤ l / w
  pub within : e ≤ l

-- tables of so many numbers have the rows of these bounds
pub record Roomy (h : Bounds) (q a t c v : ℕ) : Type 0 where
  pub questions : h.questions ≤ q / 4
  pub patterns : h.patterns ≤ a / 2
  pub trees : h.trees ≤ t / 6
  pub records : h.records ≤ c / 4
  pub values : h.values ≤ v

-- five parts are the rows of a task with these bounds
pub record Cuts (x : Side) (h : Bounds) (q a t c v : ℕ) (p : Parts) : Type 0 where
  pub questions : Cut x 4 q h.questions p.questions.from p.questions.to
  pub patterns : Cut x 2 a h.patterns p.patterns.from p.patterns.to
  pub trees : Cut x 6 t h.trees p.trees.from p.trees.to
  pub records : Cut x 4 c h.records p.records.from p.records.to
  pub values : Cut x 1 v h.values p.values.from p.values.to
