-- Why a load is refused, number by number, in the words of `written`: no model is chosen (16, 13 to 15, 12); the range of the tree text is not inside the data (16), the
-- text there breaks (17, with the place where) or has a negative state (18); the range of the block is not inside the data (16), the bytes there are no block (19); a table is too short
-- (20); linking refuses the text (21 to 23). Each holds only where those before it don't.
use Rattle.std.specs.Prelude.{◌≡◌, true, false, List, ℕ, ◌+◌, ◌≤◌, length, take, drop, Err}
use Rattle.written.specs.Said.{Text, Layout}
use Rattle.written.specs.TreeText.{Says}
use Rattle.written.specs.Breaks.{Breaks}
use Rattle.written.specs.Tables.{ModelRefused, Negative}
use Rattle.written.specs.Blocks as block
use Rattle.pdf_widen.specs.Widening.{widen_of}
use Rattle.error.specs.Numbers.{number_of, place_of, line_of}
use Rattle.error.specs.declared.Refusal.{Refusal}
use Rattle.error.specs.declared.Refusal.TheVariants as refusal
use Rattle.head_record.specs.declared.Header.{Header}
use Rattle.load_choose.specs.Entries.{Choice}
use Rattle.load_choose.specs.declared.Which.{Which}
use Rattle.load_plan.specs.Plans.{data_of}
use Rattle.load_plan.specs.declared.Plan.{Plan}
use Rattle.load_model.specs.Load.{Tables, room_in}
use Rattle.shown_load.specs.Stored.{Chose}
use Rattle.load_choose.specs.Chosen.{chosen}

-- a range, whose end belongs to it, lies inside the data
abbrev pub Within : ℕ → ℕ → List ℕ → Type 0
Within a b d = (a ≤ b + 1) × (b + 1 ≤ length d)

-- Of a file s with the record h, where L is lent. The model asked for has its tree text from u to v in the data, and its block, of width w, from x to y.
pub data NotLoaded (s : List ℕ) (h : Header) (which : Which) (L : Tables) : Refusal → Type 0 where
  not_chosen : {z : Refusal} → Choice s h which (Err z) → NotLoaded s h which L z
  text_outside :
      {u v x y w : ℕ} → Choice s h which (chosen u v x y w) → ¬ Within u v (data_of s h)
      → NotLoaded s h which L refusal.Range
  no_text :
      {u v x y w p : ℕ} → Choice s h which (chosen u v x y w) → Within u v (data_of s h) → Breaks (take (v + 1) (data_of s h)) u p
      → NotLoaded s h which L (refusal.Text p)
  negative_state :
      {u v x y w : ℕ} {t : Text} {l : Layout} → Choice s h which (chosen u v x y w) → Within u v (data_of s h) → Says (take (v + 1) (data_of s h)) u t l → Negative t.trees
      → NotLoaded s h which L refusal.State
  block_outside :
      {u v x y w : ℕ} {t : Text} {l : Layout} → Choice s h which (chosen u v x y w) → Within u v (data_of s h) → Says (take (v + 1) (data_of s h)) u t l → ¬ Negative t.trees
      → ¬ Within x y (data_of s h) → NotLoaded s h which L refusal.Range
  no_block :
      {u v x y w : ℕ} {t : Text} {l : Layout} → Choice s h which (chosen u v x y w) → Within u v (data_of s h) → Says (take (v + 1) (data_of s h)) u t l → ¬ Negative t.trees
      → Within x y (data_of s h)
      → ((rows : List block.Row) (read : List ℕ) → ¬ block.Block (widen_of 8 23 11 52) (length t.trees) w (drop x (take (y + 1) (data_of s h))) rows read)
      → NotLoaded s h which L refusal.Block
  no_room :
      {p : Plan} {t : Text} {l : Layout} → Chose s h which p t l → room_in p L ≡ false
      → NotLoaded s h which L refusal.Room
  not_linked :
      {z : Refusal} {p : Plan} {t : Text} {l : Layout} → Chose s h which p t l → room_in p L ≡ true
      → ModelRefused t.questions t.trees (number_of z) (place_of z) (line_of z)
      → NotLoaded s h which L z
