-- The laws of widths: a model of a width.
use mathlib.Core.Path.{◌≡◌, refl, ap}
use mathlib.Core.Bool.{Bool, true, false}
use Prim.Native.Nat.{ℕ, ◌≤◌, ◌<◌}
use native.Mathlib.Omega.{arith}
use borrow.Author.Tests.{lt-ltb, le-ltb}
use mir.Val.{bool_byte}
use Rattle.error.specs.declared.Refusal.TheVariants as refusal
use Rattle.head_record.specs.declared.Range.{Range}
use Rattle.load_choose.specs.Chosen.{chosen, bit, model_of}
use Rattle.std.specs.Prelude.{Err}

-- ---- a width

pub bit_byte : (b : Bool) → bool_byte b ≡ bit b
bit_byte true = refl
bit_byte false = refl

pub bit_small : (b : Bool) → bit b ≤ 1
bit_small true = omega arith
bit_small false = omega arith

module _ (tree pdf : Range) where
  pub model_over : {w : ℕ} → 4096 < w → Err refusal.Limit ≡ model_of tree pdf w
  unfolding model_of
  model_over {w} h = rw (lt-ltb 4096 w h)

  pub model_within : {v w : ℕ} → v ≡ w → v ≤ 4096 → chosen tree.from tree.to pdf.from pdf.to v ≡ model_of tree pdf w
  unfolding model_of
  model_within {v} {w} e h = let k : w ≤ 4096 = omega arith in rw (le-ltb 4096 w k) (ap (chosen tree.from tree.to pdf.from pdf.to) e)
