-- `text_numbers::parse_unsigned`. The invariant: the answer is the one that the digits from i on give, after those that said `value`, and these are few.
use Prim.Native.Nat.{ℕ, ◌+◌, ◌-◌, ◌≤◌, ◌<◌}
use mathlib.Core.Path.{◌≡◌, sym, ◌∙◌}
use mathlib.Core.Bool.{true}
use lib.ListN.{length, get_or}
use native.Mathlib.Omega.{arith}
use borrow.Author.Tests.{not-true, not-false}
use Rattle.written.specs.Bytes.{digit}
use Rattle.text_numbers.proofs.Numbers.{from_on, from_here, digit-range, at_end, at_other, at_digit, tens_fit, tens_start, tens_on}
use Rattle.text_numbers.proofs.parse_unsigned.Goals.{Else-not-is_digit-2, In-loop-i}
use Rattle.text_numbers.proofs.parse_unsigned.Goals.{then-s-at-le19, else-s-at-le19}
use Rattle.text_numbers.proofs.parse_unsigned.Goals as goal

pub returns-then-s-at : goal.returns-then-s-at
returns-then-s-at c = sym (at_end _ _ c.if-s-at.true)

pub returns-then-not-is_digit : goal.returns-then-not-is_digit
returns-then-not-is_digit c = sym (at_other _ _ c.if-s-at.false (sym c.is_digit.ensures ∙ not-true _ c.if-not-is_digit.true-raw))

pub loop-i-init : goal.loop-i-init
loop-i-init c =
    let few : (c.if-s-at-le19.most ≤ length c.args.s.now) × (c.if-s-at-le19.most ≤ c.args.at + 19) = elim c.if-s-at-le19.branch [
      | then-s-at-le19 w ↦ (omega arith, omega arith)
      | else-s-at-le19 w ↦ (omega arith, omega arith)
    ] in
    record {
      answer = at_digit _ _ c.if-s-at.false (sym c.is_digit.ensures ∙ not-false _ c.if-not-is_digit.false-raw);
      from = omega arith;
      inside = few.0;
      few = few.1;
      small = tens_start _;
    }

-- what was read is small
little : (c : In-loop-i) → c.loop-i.value < 1000000000000000000
little c =
    let inv = c.loop-i.invariant in
    omega (arith, inv.small, inv.from, inv.few, tens_fit (c.loop-i.i - c.args.at) (omega (arith, inv.from, inv.few)))

pub returns-then-not-is_digit-2 : goal.returns-then-not-is_digit-2
returns-then-not-is_digit-2 c =
    sym (c.loop-i.invariant.answer ∙ from_here _ _ _ (omega (arith, c.loop-i.invariant.inside)) (sym c.is_digit-in-loop-i.ensures ∙ not-true _ c.if-not-is_digit-2.true-raw) (omega (arith, little (goal.at.returns-then-not-is_digit-2 c).In-loop-i)))

-- the byte read in a turn is a digit
abbrev byte : Else-not-is_digit-2 → ℕ
byte c = get_or c.args.s.now c.loop-i.i 0

is_a_digit : (c : Else-not-is_digit-2) → digit (byte c) ≡ true
is_a_digit c = sym c.is_digit-in-loop-i.ensures ∙ not-false _ c.if-not-is_digit-2.false-raw

pub overflow_mul-value : goal.overflow_mul-value
overflow_mul-value c = omega (arith, little (goal.at.overflow_mul-value c).In-loop-i)

pub overflow_sub-value : goal.overflow_sub-value
overflow_sub-value c = omega (arith, digit-range _ (is_a_digit c))

pub overflow_cast-value : goal.overflow_cast-value
overflow_cast-value c = omega (arith, digit-range _ (is_a_digit c))

pub overflow_add-value : goal.overflow_add-value
overflow_add-value c = omega (arith, little (goal.at.overflow_add-value c).In-loop-i, digit-range _ (is_a_digit c))

pub loop-i-preserved : goal.loop-i-preserved
loop-i-preserved c =
    let inv = c.loop-i.invariant in
    let r = digit-range _ (is_a_digit c) in
    record {
      answer = inv.answer ∙ from_on _ _ _ (omega (arith, inv.inside)) (is_a_digit c);
      from = omega (arith, inv.from);
      inside = inv.inside;
      few = inv.few;
      small = tens_on _ _ _ _ inv.from inv.small (omega arith);
    }

pub returns : goal.returns
returns c =
    let e : c.if-s-at-le19.most ≡ c.loop-i.i = omega (arith, c.loop-i.invariant.from) in
    c.parse_rest.ensures ∙ rw e (sym c.loop-i.invariant.answer)
