-- No refusal is 0: opening that says 0 left a record in the words.
use mathlib.Core.Path.{◌≡◌, refl}
use mathlib.Core.Bool.{Bool, true, false, cond}
use mathlib.Core.List.{List}
use Prim.Native.Nat.{ℕ, ◌≤◌, ◌<◌}
use native.Mathlib.Omega.{arith}
use borrow.Author.Tests.{ltb-false}
use lib.Dec.{ltb}
use lib.ListN.{length}
use lib.Seq.{sets, length-sets}
use Rattle.std.specs.Prelude.{Result, Ok, Err, ⊤}
use Rattle.error.specs.Numbers.{number_of}
use Rattle.error.specs.declared.LinkFault.TheVariants as fault
use Rattle.error.specs.declared.Refusal.{Refusal}
use Rattle.error.specs.declared.Refusal.TheVariants as refusal
use Rattle.head_words.specs.Words.{header_words}
use Rattle.head_open.specs.Open.{open_of}
use Rattle.face_open.specs.Answers.{open_said_by, open_said, open_words_by, open_words}
use Rattle.face_record.specs.Answers.{said}

pub above_zero : (r : Refusal) → 0 < number_of r
above_zero refusal.Split = omega arith
above_zero (refusal.Utf8 p) = omega arith
above_zero (refusal.Eof p) = omega arith
above_zero (refusal.ExpectedBool p) = omega arith
above_zero (refusal.ExpectedInteger p) = omega arith
above_zero (refusal.ExpectedArrayComma p) = omega arith
above_zero (refusal.ExpectedMapColon p) = omega arith
above_zero (refusal.ExpectedMapNewline p) = omega arith
above_zero refusal.Field = omega arith
above_zero (refusal.Number p) = omega arith
above_zero refusal.Limit = omega arith
above_zero refusal.NoPosition = omega arith
above_zero refusal.NoStream = omega arith
above_zero refusal.UseGv = omega arith
above_zero refusal.Range = omega arith
above_zero (refusal.Text p) = omega arith
above_zero refusal.State = omega arith
above_zero refusal.Block = omega arith
above_zero refusal.Room = omega arith
above_zero (refusal.Unlinked fault.NodeRef t k) = omega arith
above_zero (refusal.Unlinked fault.QuestionRef t k) = omega arith
above_zero (refusal.Unlinked fault.LoneNode t k) = omega arith
above_zero refusal.WalkTable = omega arith
above_zero refusal.Steps = omega arith
above_zero refusal.NoTrailer = omega arith
above_zero refusal.TrailerSum = omega arith
above_zero refusal.TrailerRows = omega arith
above_zero refusal.Held = omega arith
above_zero refusal.OtherRows = omega arith

module _ (s w : List ℕ) (e : (open_said s (length w)).number ≡ 0) where
  -- the file was accepted, and the words have room
  pub opened : ((open_of s).verdict ≡ Ok tt) × (647 ≤ length w)
  unfolding open_said
  opened = go (open_of s).verdict refl e
    where
      go : (v : Result ⊤ Refusal) → (open_of s).verdict ≡ v → (open_said_by (length w) v).number ≡ 0 → ((open_of s).verdict ≡ Ok tt) × (647 ≤ length w)
      go (Ok _) q e = pick (ltb (length w) 647) refl e
        where
          pick : (b : Bool) → ltb (length w) 647 ≡ b → (cond b (said 20 0) (said 0 0)).number ≡ 0 → ((open_of s).verdict ≡ Ok tt) × (647 ≤ length w)
          pick true p e = absurd (omega (arith, e))
          pick false p e = (q, ltb-false (length w) 647 p)
      go (Err r) q e = absurd (omega (arith, e, above_zero r))

  pub opened_long : 647 ≤ length (open_words s w)
  unfolding open_words
  opened_long =
      let z = opened in
      go (ltb (length w) 647) (open_of s).verdict z
    where
      go : (b : Bool) (v : Result ⊤ Refusal) → ((open_of s).verdict ≡ Ok tt) × (647 ≤ length w) → 647 ≤ length (open_words_by w (open_of s).header v)
      go b (Ok _) z = pick (ltb (length w) 647)
        where
          pick : (b : Bool) → 647 ≤ length (cond b w (sets w 0 (header_words (open_of s).header)))
          pick true = z.1
          pick false = omega (arith, z.1, length-sets w 0 (header_words (open_of s).header))
      go b (Err r) z = z.1
