-- `text_numbers::positive`: the number of each case.
use mathlib.Core.Path.{◌≡◌, refl, sym, ap, ap₂, ◌∙◌}
use mathlib.Core.Bool.{Bool, true, false, cond}
use Prim.Native.Nat.{ℕ, ◌^◌}
use borrow.Author.Tests.{lt-ltb, le-ltb}
use lib.Dec.{ltb}
use lib.IntN.{ℤ, pos}
use Rattle.text_numbers.specs.declared.NumberError.{NumberError}
use Rattle.std.specs.declared.result.Result.{Result}
use Rattle.text_parts.specs.declared.Read.{Read}
use Rattle.text_parts.specs.Parts.{read_to}
use Rattle.std.specs.declared.option.Option.{Option}
use Rattle.std.specs.Prelude.{Some, None, Ok}
use Rattle.laws.proofs.Signed.{back}
use Rattle.text_numbers.specs.Answers.{signed_of}
use Rattle.text_numbers.proofs.positive.Goals as goal

abbrev answer : Result (Read ℕ) NumberError → Option (Read ℤ)
answer = signed_of (λ n. ltb n (2 ^ 63)) pos

fits : {u : Result (Read ℕ) NumberError} (n e : ℕ) {x : ℤ} → u ≡ Ok (read_to n e) → ltb n (2 ^ 63) ≡ true → x ≡ pos n → Some (read_to x e) ≡ answer u
fits n e p q r = ap₂ (λ v k. Some (read_to v k)) r refl ∙ sym (ap answer p ∙ ap (λ (b : Bool). cond b (Some (read_to (pos n) e)) None) q)

large : {u : Result (Read ℕ) NumberError} (n e : ℕ) → u ≡ Ok (read_to n e) → ltb n (2 ^ 63) ≡ false → None ≡ answer u
large n e p q = sym (ap answer p ∙ ap (λ (b : Bool). cond b (Some (read_to (pos n) e)) None) q)

pub returns-then-value-lt9223372036854775808 : goal.returns-then-value-lt9223372036854775808
returns-then-value-lt9223372036854775808 c = fits _ _ c.in-Ok.is (lt-ltb _ _ c.if-value-lt9223372036854775808.true) (back _ c.plus.type_inv ∙ c.plus.ensures)

pub returns-else-value-lt9223372036854775808 : goal.returns-else-value-lt9223372036854775808
returns-else-value-lt9223372036854775808 c = large _ _ c.in-Ok.is (le-ltb _ _ c.if-value-lt9223372036854775808.false)

pub returns-in-Err : goal.returns-in-Err
returns-in-Err c = ap answer (sym c.in-Err.is)
