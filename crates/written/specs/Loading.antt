-- What a model of a voice is, or why it is none: what a load with room for it reads, and each refusal from 12 to 19 and from 21 to 23 with what is wrong, in 01's order.
-- From 01's 'Order when loading a model'. `widen` is that of Blocks.
use Rattle.std.specs.Prelude.{List, ℕ, ◌+◌, ◌≤◌, ◌<◌, length, take, drop}
use Rattle.written.specs.HeaderText.{Range}
use Rattle.written.specs.Record.{Header}
use Rattle.written.specs.Blocks as block
use Rattle.written.specs.Said.{Text, Layout}
use Rattle.written.specs.TreeText as tree
use Rattle.written.specs.Breaks.{Breaks}
use Rattle.written.specs.Tables.{ModelRefused, Negative}
use Rattle.written.specs.Models.{Model, data_of, Within, Placed, Unplaced}

-- what a model is: what its text says, its block's rows, its width, its values
pub record ModelSaid : Type 0 where
  pub text : Text
  pub rows : List block.Row
  pub width : ℕ
  pub values : List ℕ

module _ (widen : ℕ → ℕ) (s : List ℕ) (h : Header) where
  -- what its text and its block say: where they stand, the text laid out so, no state negative
  pub record ReadsModel (m : Model) (x : ModelSaid) (l : Layout) : Type 0 where
    pub text_at : Range
    pub block_range : Range
    pub placed : Placed s h m text_at block_range x.width
    pub narrow : x.width ≤ 4096
    pub text_inside : Within text_at (data_of s h)
    pub text_says : tree.Says (take (text_at.to + 1) (data_of s h)) text_at.from x.text l
    pub natural : ¬ Negative x.text.trees
    pub block_inside : Within block_range (data_of s h)
    pub block_says : block.Block widen (length x.text.trees) x.width (drop block_range.from (take (block_range.to + 1) (data_of s h))) x.rows x.values

  -- why not, however much room there is: number, place, line. What its text says is no model: a negative state (18), its block's range (16), its block (19), linking (21 to 23)
  pub data Unloaded (x : Text) (at : Range) (w : ℕ) : ℕ → ℕ → ℕ → Type 0 where
    negative : Negative x.trees → Unloaded x at w 18 0 0
    block_outside : ¬ Negative x.trees → ¬ Within at (data_of s h) → Unloaded x at w 16 0 0
    no_block : ¬ Negative x.trees → Within at (data_of s h)
        → ((rows : List block.Row) (values : List ℕ) → ¬ block.Block widen (length x.trees) w (drop at.from (take (at.to + 1) (data_of s h))) rows values)
        → Unloaded x at w 19 0 0
    unlinked : {rows : List block.Row} {values : List ℕ} {c i k : ℕ}
        → ¬ Negative x.trees → Within at (data_of s h) → block.Block widen (length x.trees) w (drop at.from (take (at.to + 1) (data_of s h))) rows values
        → ModelRefused x.questions x.trees c i k → Unloaded x at w c i k

  -- its width is above the limit (12), its text's range (16), its text breaks (17)
  pub data Unread (text_at block_range : Range) (w : ℕ) : ℕ → ℕ → ℕ → Type 0 where
    wide : 4096 < w → Unread text_at block_range w 12 0 0
    text_outside : w ≤ 4096 → ¬ Within text_at (data_of s h) → Unread text_at block_range w 16 0 0
    breaks : {p : ℕ} → w ≤ 4096 → Within text_at (data_of s h) → Breaks (take (text_at.to + 1) (data_of s h)) text_at.from p → Unread text_at block_range w 17 p 0
    said : {x : Text} {l : Layout} {n p k : ℕ}
        → w ≤ 4096 → Within text_at (data_of s h) → tree.Says (take (text_at.to + 1) (data_of s h)) text_at.from x l → Unloaded x block_range w n p k
        → Unread text_at block_range w n p k

  -- it stands nowhere (13 to 15)
  pub data NoModel (m : Model) : ℕ → ℕ → ℕ → Type 0 where
    unplaced : {n : ℕ} → Unplaced s h m n → NoModel m n 0 0
    placed : {text_at block_range : Range} {w n p k : ℕ} → Placed s h m text_at block_range w → Unread text_at block_range w n p k → NoModel m n p k
