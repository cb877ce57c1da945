-- `text_base::is_pattern`: usual bytes are in patterns, a quote is not, and else the test goes by the class, at each of the 256 bytes.
use Rattle.std.proofs.Common.{◌≡◌, ℕ, ◌<◌, Bool, true, false, ◌||◌, sym, refl, ap, ◌∙◌, arith}
use Rattle.written.specs.Bytes.{letter, digit, wildcard, mark, one_of, in_pattern}
use Rattle.text_base.specs.Classes.{class_of, usual}
use Rattle.text_base.specs.declared.Class.{Class}
use Rattle.text_base.specs.declared.Class.TheVariants.{Letter, Digit, Wildcard, Mark, Rest}
use Rattle.text_base.proofs.Keys.{same_at, told}
use Rattle.text_base.proofs.is_pattern.Goals as goal

abbrev goes : ℕ → Class → Bool
goes b Letter = true
goes b Digit = true
goes b Wildcard = true
goes b Mark = true
goes b Rest = false

of_usual : (b : ℕ) → b < 256 → usual b ≡ true → true ≡ in_pattern b
unfolding usual letter digit wildcard mark one_of in_pattern
of_usual b h e = sym (ap (◌|| in_pattern b) e) ∙ same_at (λ n. usual n || in_pattern n) in_pattern 256 0 refl b (omega arith) (omega arith)

of_quote : (b : ℕ) → b ≡ 34 → false ≡ in_pattern b
unfolding letter digit wildcard mark one_of in_pattern
of_quote b e = sym (ap in_pattern e)

pub returns-then-is_usual : goal.returns-then-is_usual
returns-then-is_usual c = of_usual c.args.b (omega arith) (sym c.is_usual.ensures ∙ c.if-is_usual.true)

pub returns-then-b-eq34 : goal.returns-then-b-eq34
returns-then-b-eq34 c = of_quote c.args.b c.if-b-eq34.true

pub returns-in-Digit : goal.returns-in-Digit
unfolding class_of letter digit wildcard mark one_of in_pattern
returns-in-Digit c = told in_pattern goes c.args.b refl (omega arith) c.in-Digit.is c.class_of.ensures

pub returns-in-Letter : goal.returns-in-Letter
unfolding class_of letter digit wildcard mark one_of in_pattern
returns-in-Letter c = told in_pattern goes c.args.b refl (omega arith) c.in-Letter.is c.class_of.ensures

pub returns-in-Wildcard : goal.returns-in-Wildcard
unfolding class_of letter digit wildcard mark one_of in_pattern
returns-in-Wildcard c = told in_pattern goes c.args.b refl (omega arith) c.in-Wildcard.is c.class_of.ensures

pub returns-in-Mark : goal.returns-in-Mark
unfolding class_of letter digit wildcard mark one_of in_pattern
returns-in-Mark c = told in_pattern goes c.args.b refl (omega arith) c.in-Mark.is c.class_of.ensures

pub returns-in-Rest : goal.returns-in-Rest
unfolding class_of letter digit wildcard mark one_of in_pattern
returns-in-Rest c = told in_pattern goes c.args.b refl (omega arith) c.in-Rest.is c.class_of.ensures
