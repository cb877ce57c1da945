-- `larsavim_write_needs` and `larsavim_write` keep their promises; these allow one outcome; a refusal leaves the buffer as it was.
use mathlib.Core.Path.{◌≡◌, refl}
use mathlib.Core.Bool.{Bool, true, false, cond}
use mathlib.Core.List.{List, [], ◌∷◌}
use Prim.Native.Nat.{ℕ, ◌*◌, ◌^◌, ◌≤◌, ◌<◌}
use native.Mathlib.Omega.{arith}
use borrow.Author.Tests.{ltb-true, ltb-false}
use lib.Dec.{ltb}
use lib.ListN.{length}
use lib.Seq.{sets}
use Rattle.written.specs.Writing.{Wrote}
use Rattle.written_back.proofs.Never.{measured_once, wrote_once}
use Rattle.table_rows.specs.Rows.{record_rows}
use Rattle.write_tables.specs.Answers.{judged_of, bytes_of, measure_of, answer_of, buffer_of, number_of, length_of}
use Rattle.face_write.specs.Answers.{length_said, write_said, write_left}
use Rattle.larsavim.specs.Face.{answered, written, left}
use Rattle.larsavim.specs.Write.{Measures, Writes}
use Rattle.shown_write.proofs.Call.{measure_sound, write_sound}
use Rattle.promises.proofs.Moved.{moved₂, moved₃}
use Rattle.promises.specs.Writing.{AfterWriteNeeds, AfterWrite}

-- a slice has fewer than 2^63 bytes, and so fewer than 2^58 records
few : (R : List ℕ) → length R * 8 < 2 ^ 63 → record_rows R ≤ 2 ^ 63
few R short = omega arith

module _ (d Q P T R out : List ℕ) where
  -- the contract keeps the promise
  pub write_needs_kept : {r : ℕ} {o : List ℕ} → Measures d Q P T R out r o → AfterWriteNeeds d Q P T R out r o
  unfolding answered written length_said
  write_needs_kept x = moved₂ (AfterWriteNeeds d Q P T R out) x.number x.answer (go (ltb (length out) 2) refl)
    where
      n : ℕ
      n = number_of (measure_of d Q P T R)

      k : ℕ
      k = length_of (measure_of d Q P T R)

      go : (c : Bool) → ltb (length out) 2 ≡ c → AfterWriteNeeds d Q P T R out (cond c 20 n) (cond c out (sets out 0 (n ∷ k ∷ [])))
      go true e = AfterWriteNeeds.short_out (ltb-true (length out) 2 e)
      go false e = AfterWriteNeeds.measured (ltb-false (length out) 2 e) (measure_sound d Q P T R (few R x.short))

  pub write_kept : (b : List ℕ) {r : ℕ} {e o : List ℕ} → Writes d Q P T R b out r e o → AfterWrite d Q P T R b out r e o
  unfolding answered written left write_said write_left
  write_kept b x = moved₃ (AfterWrite d Q P T R b out) x.number x.buffer x.answer (go (ltb (length out) 2) refl)
    where
      n : ℕ
      n = number_of (answer_of (length b) (bytes_of d Q P T R) (judged_of d Q P T R))

      k : ℕ
      k = length_of (answer_of (length b) (bytes_of d Q P T R) (judged_of d Q P T R))

      after : List ℕ
      after = buffer_of b (bytes_of d Q P T R) (judged_of d Q P T R)

      go : (c : Bool) → ltb (length out) 2 ≡ c → AfterWrite d Q P T R b out (cond c 20 n) (cond c b after) (cond c out (sets out 0 (n ∷ k ∷ [])))
      go true e = AfterWrite.short_out (ltb-true (length out) 2 e)
      go false e = AfterWrite.wrote (ltb-false (length out) 2 e) (write_sound d Q P T R (few R x.short) b (record { answer_is = refl; buffer_is = refl }))

-- the promises allow one outcome
pub after_write_needs_once : {d Q P T R out : List ℕ} {r s : ℕ} {o p : List ℕ} → AfterWriteNeeds d Q P T R out r o → AfterWriteNeeds d Q P T R out s p → (r ≡ s) × (o ≡ p)
after_write_needs_once (AfterWriteNeeds.short_out a) (AfterWriteNeeds.short_out b) = (refl, refl)
after_write_needs_once (AfterWriteNeeds.short_out a) (AfterWriteNeeds.measured b y) = absurd (omega arith)
after_write_needs_once (AfterWriteNeeds.measured a x) (AfterWriteNeeds.short_out b) = absurd (omega arith)
after_write_needs_once {out = out} (AfterWriteNeeds.measured a x) (AfterWriteNeeds.measured b y) = let z = measured_once x y in (z.0, λ i. sets out 0 (z.0 i ∷ z.1 i ∷ []))

pub after_write_once : {d Q P T R b out : List ℕ} {r s : ℕ} {e f o p : List ℕ} → AfterWrite d Q P T R b out r e o → AfterWrite d Q P T R b out s f p → (r ≡ s) × (e ≡ f) × (o ≡ p)
after_write_once (AfterWrite.short_out a) (AfterWrite.short_out b) = (refl, refl, refl)
after_write_once (AfterWrite.short_out a) (AfterWrite.wrote b y) = absurd (omega arith)
after_write_once (AfterWrite.wrote a x) (AfterWrite.short_out b) = absurd (omega arith)
after_write_once {out = out} (AfterWrite.wrote a x) (AfterWrite.wrote b y) = let z = wrote_once x y in (z.0, z.2, λ i. sets out 0 (z.0 i ∷ z.1 i ∷ []))

-- demand 1: every number but 0 leaves the buffer as it was
pub write_leaves : {d Q P T R b out : List ℕ} {r : ℕ} {e o : List ℕ} → AfterWrite d Q P T R b out r e o → ¬ (r ≡ 0) → e ≡ b
write_leaves (AfterWrite.short_out a) n = refl
write_leaves (AfterWrite.wrote a (Wrote.done w l x y)) n = absurd (n refl)
write_leaves (AfterWrite.wrote a (Wrote.refused w x)) n = x
