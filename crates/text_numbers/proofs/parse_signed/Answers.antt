-- `text_numbers::parse_signed`: each way out is an arm of `signedAt`.
use mathlib.Core.Path.{◌≡◌, sym, ap, ◌∙◌}
use mathlib.Core.List.{List}
use Prim.Native.Nat.{ℕ, ◌+◌, ◌^◌}
use native.Mathlib.Omega.{arith}
use borrow.Author.Tests.{eq-eqb, ne_eqb, eqb-true, eqb-false}
use lib.Dec.{leb, ltb}
use lib.IntN.{pos, neg_ℤ}
use Rattle.text_numbers.specs.declared.NumberError.{NumberError}
use Rattle.text_parts.specs.declared.Read.{Read}
use Rattle.std.specs.declared.result.Result.{Result}
use Rattle.written.specs.Bytes.{byte_at}
use Rattle.laws.proofs.Runs.{read_in}
use Rattle.text_numbers.specs.Answers.{unsigned_at, signed_of, signed_at}
use Rattle.text_numbers.proofs.parse_signed.Goals.{then-minus, else-minus}
use Rattle.text_numbers.proofs.parse_signed.Goals as goal

module _ (s : List ℕ) (i : ℕ) {b : ℕ} (first : b ≡ byte_at s i) {u : Result (Read ℕ) NumberError} where
  dashed : b ≡ 45 → u ≡ unsigned_at s (i + 1) → signed_of (λ n. leb n (2 ^ 63)) (λ n. neg_ℤ (pos n)) u ≡ signed_at s i
  unfolding signed_at
  dashed q r = rw (eq-eqb _ _ (sym first ∙ q), ← r)

  bare : (b ≡ 45 → ⊥) → u ≡ unsigned_at s i → signed_of (λ n. ltb n (2 ^ 63)) pos u ≡ signed_at s i
  unfolding signed_at
  bare q r = rw (ne_eqb _ _ (λ h. q (first ∙ h)), ← r)

pub overflow_add-digits : goal.overflow_add-digits
overflow_add-digits c = omega (arith, read_in _ _ c.byte_at-minus.ensures (eqb-true _ _ c.if-minus.true-raw) (omega arith))

pub returns-then-minus-2 : goal.returns-then-minus-2
returns-then-minus-2 c =
    c.negative.ensures
    ∙ elim c.if-minus.branch [
      | then-minus w ↦ dashed _ _ c.byte_at-minus.ensures (eqb-true _ _ c.if-minus-2.true-raw) (c.parse_unsigned-u.ensures ∙ ap (unsigned_at _) w.digits-is)
      | else-minus w ↦ absurd (omega arith)
    ]

pub returns-else-minus-2 : goal.returns-else-minus-2
returns-else-minus-2 c =
    c.positive.ensures
    ∙ elim c.if-minus.branch [
      | then-minus w ↦ absurd (omega arith)
      | else-minus w ↦ bare _ _ c.byte_at-minus.ensures (eqb-false _ _ c.if-minus-2.false-raw) (c.parse_unsigned-u.ensures ∙ ap (unsigned_at _) w.digits-is)
    ]
