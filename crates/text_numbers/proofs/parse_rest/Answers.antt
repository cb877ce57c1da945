-- `text_numbers::parse_rest`. The invariant: the answer is the one that the digits from i on give, after those that said `value`.
use Prim.Native.Nat.{ℕ, ◌+◌, ◌*◌, ◌-◌}
use mathlib.Core.Path.{◌≡◌, refl, sym, ◌∙◌}
use mathlib.Core.Bool.{true}
use lib.ListN.{get_or}
use native.Mathlib.Omega.{arith}
use borrow.Author.Tests.{not-true, not-false}
use Rattle.written.specs.Bytes.{digit}
use Rattle.text_numbers.specs.Answers.{unsigned_from}
use Rattle.text_numbers.proofs.Numbers.{from_on, from_here, from_end, from_big, digit-range}
use Rattle.text_numbers.proofs.parse_rest.Goals.{Else-not-is_digit}
use Rattle.text_numbers.proofs.parse_rest.Goals as goal

pub loop-i-init : goal.loop-i-init
loop-i-init c = (refl, omega arith, omega arith)

pub returns-then-not-is_digit : goal.returns-then-not-is_digit
returns-then-not-is_digit c =
    sym (c.loop-i.invariant.0 ∙ from_here _ _ _ c.loop-i-test.true (sym c.is_digit.ensures ∙ not-true _ c.if-not-is_digit.true-raw) c.loop-i.invariant.1)

-- the byte read in a turn is a digit
abbrev byte : Else-not-is_digit → ℕ
byte c = get_or c.args.s.now c.loop-i.i 0

is_a_digit : (c : Else-not-is_digit) → digit (byte c) ≡ true
is_a_digit c = sym c.is_digit.ensures ∙ not-false _ c.if-not-is_digit.false-raw

-- the answer is the one with that digit counted
on :
    (c : Else-not-is_digit)
    → unsigned_from c.args.said c.args.s.now c.args.at
    ≡ unsigned_from (c.loop-i.value * 10 + (byte c - 48)) c.args.s.now (c.loop-i.i + 1)
on c = c.loop-i.invariant.0 ∙ from_on _ _ _ c.loop-i-test.true (is_a_digit c)

pub overflow_sub-d : goal.overflow_sub-d
overflow_sub-d c = omega (arith, digit-range _ (is_a_digit c))

pub overflow_cast-d : goal.overflow_cast-d
overflow_cast-d c = omega (arith, digit-range _ (is_a_digit c))

pub returns-then-value-gt1844674407370955161 : goal.returns-then-value-gt1844674407370955161
returns-then-value-gt1844674407370955161 c = sym (on (goal.at.returns-then-value-gt1844674407370955161 c).Else-not-is_digit ∙ from_big _ _ _ (omega arith))

pub overflow_sub-d-in-loop-i : goal.overflow_sub-d-in-loop-i
overflow_sub-d-in-loop-i c = omega (arith, digit-range _ (is_a_digit (goal.at.overflow_sub-d-in-loop-i c).Else-not-is_digit))

pub returns-then-d-value : goal.returns-then-d-value
returns-then-d-value c = sym (on (goal.at.returns-then-d-value c).Else-not-is_digit ∙ from_big _ _ _ (omega (arith, digit-range _ (is_a_digit (goal.at.returns-then-d-value c).Else-not-is_digit))))

pub overflow_add-value : goal.overflow_add-value
overflow_add-value c = omega (arith, digit-range _ (is_a_digit (goal.at.overflow_add-value c).Else-not-is_digit))

pub loop-i-preserved : goal.loop-i-preserved
loop-i-preserved c = (on (goal.at.loop-i-preserved c).Else-not-is_digit, omega (arith, digit-range _ (is_a_digit (goal.at.loop-i-preserved c).Else-not-is_digit)), omega arith)

pub returns : goal.returns
returns c =
    let e : c.max.result ≡ c.loop-i.i = omega (arith, c.max.ensures, c.loop-i.invariant.2) in
    rw e (sym (c.loop-i.invariant.0 ∙ from_end _ _ _ c.loop-i-test.false c.loop-i.invariant.1))
