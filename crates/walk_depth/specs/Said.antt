-- What the depth check says of a tree (02, Wish 8): the answer is `written`'s, and the work is zero but where there is too little of it.
use Rattle.std.specs.Prelude.{◌≡◌, cond, List, ℕ, eqb, ℤ, pos, length, replicate}
use Rattle.written.specs.Linking.{Row}
use Rattle.written.specs.Depths as depths
use Rattle.written.specs.Depths.{DepthSaid, Met, Good, TreeDepth}
use Rattle.table_rows.specs.Rows.{tree_table, record_table}
use Rattle.walk_depth.specs.declared.Depth.{Depth}

-- every record that a path can meet is a line or a leaf
abbrev pub AllGood : List Row → Type 0
AllGood rows = (j : ℕ) → Met rows j → Good rows j

-- the three numbers, as `written` has them
abbrev pub said_as : Depth → DepthSaid
said_as r = record { number = r.number; answer = r.answer; questions = r.questions }

abbrev pub JudgedAs : List Row → Depth → Type 0
JudgedAs rows r = depths.Depth rows (said_as r)

-- the work after the call
unfoldable pub work_after : List ℤ → ℕ → List ℤ
work_after w number = cond (eqb number 20) w (replicate (length w) (pos 0))

-- what is promised of the call: its answer, and the work after it
pub record DepthSays (T R : List ℕ) (t : ℕ) (w : List ℤ) (r : Depth) (w' : List ℤ) : Type 0 where
  pub answered : TreeDepth (tree_table T) (record_table R) (length w) t (said_as r)
  pub work : w' ≡ work_after w r.number
