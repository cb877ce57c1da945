-- `pdf_widen::widen_any` meets its contract: each return is one case of `widenFields` at 8, 23, 11 and 52.
use mathlib.Core.Path.{◌≡◌, sym, ◌∙◌}
use Prim.Native.Nat.{ℕ, ◌+◌, ◌-◌, ◌*◌, ◌%◌, ◌^◌, ◌<◌}
use native.Mathlib.Omega.{arith}
use lib.Count.{count_leading_zeros}
use Rattle.written.specs.Interchange.{bias, join}
use Rattle.pdf_widen.specs.Widening.{widen_of, normalised}
use Rattle.pdf_widen.proofs.Leading.{Normal, normal, leading_more}
use Rattle.pdf_widen.proofs.Cases.{wide_infinite, wide_nan, wide_zero, wide_subnormal, wide_normal}
use Rattle.pdf_widen.proofs.widen_any.Goals as goal

-- what the code's shift is, and what it gives, for a fraction t that is not 0
record Moved (t : ℕ) : Type 0 where
  zeros : count_leading_zeros 24 t + 8 ≡ count_leading_zeros 32 t
  up : Normal 23 t (count_leading_zeros 24 t)
  shifted : t * 2 ^ (count_leading_zeros 32 t - 8) % 2 ^ 32 ≡ t * 2 ^ count_leading_zeros 24 t

moved : (t : ℕ) → (t ≡ 0 → ⊥) → t < 2 ^ 23 → Moved t
moved t n h =
    let zeros : count_leading_zeros 24 t + 8 ≡ count_leading_zeros 32 t = leading_more 24 8 t (omega arith) in
    let up : Normal 23 t (count_leading_zeros 24 t) = normal 23 t (omega (arith, n)) h in
    let z : count_leading_zeros 32 t - 8 ≡ count_leading_zeros 24 t = omega arith in
    record { zeros = zeros; up = up; shifted = rw z (omega arith) }

-- the code's way to the fields of a subnormal
sub_fields : (s t : ℕ) → Moved t
    → join 11 52 s (897 - (count_leading_zeros 32 t - 8)) ((t * 2 ^ (count_leading_zeros 32 t - 8) % 2 ^ 32 - 2 ^ 23) * 2 ^ 29)
    ≡ normalised 8 23 11 52 s t (count_leading_zeros 24 t)
unfolding bias
sub_fields s t m = omega arith

pub returns-then-t-eq0 : goal.returns-then-t-eq0
unfolding widen_of
returns-then-t-eq0 c = c.joined.ensures ∙ sym (wide_infinite 8 23 11 52 _ _ _ c.if-x-eq255.true c.if-t-eq0.true)

pub returns-then-x-eq255 : goal.returns-then-x-eq255
unfolding widen_of
returns-then-x-eq255 c = c.joined-then-x-eq255.ensures ∙ omega arith ∙ sym (wide_nan 8 23 11 52 _ _ _ c.if-x-eq255.true c.if-t-eq0.false)

pub returns-then-t-eq0-2 : goal.returns-then-t-eq0-2
unfolding widen_of
returns-then-t-eq0-2 c = c.joined-then-t-eq0-2.ensures ∙ sym (wide_zero 8 23 11 52 _ _ _ c.if-x-eq255.false c.if-x-eq0.true c.if-t-eq0-2.true)

pub overflow_sub-z : goal.overflow_sub-z
overflow_sub-z c =
    let m = moved (c.args.bits % 2 ^ 23) c.if-t-eq0-2.false (omega arith) in
    omega arith

pub overflow_sub-z-then-x-eq0 : goal.overflow_sub-z-then-x-eq0
overflow_sub-z-then-x-eq0 c =
    let m = moved (c.args.bits % 2 ^ 23) c.if-t-eq0-2.false (omega arith) in
    omega arith

pub overflow_shl-t : goal.overflow_shl-t
overflow_shl-t c =
    let m = moved (c.args.bits % 2 ^ 23) c.if-t-eq0-2.false (omega arith) in
    omega arith

pub overflow_sub-t : goal.overflow_sub-t
overflow_sub-t c =
    let m = moved (c.args.bits % 2 ^ 23) c.if-t-eq0-2.false (omega arith) in
    omega arith

pub joined-requires-then-x-eq0 : goal.joined-requires-then-x-eq0
joined-requires-then-x-eq0 c =
    let m = moved (c.args.bits % 2 ^ 23) c.if-t-eq0-2.false (omega arith) in
    omega arith

pub returns-then-x-eq0 : goal.returns-then-x-eq0
unfolding widen_of
returns-then-x-eq0 c =
    let t : ℕ = c.args.bits % 2 ^ 23 in
    let m = moved t c.if-t-eq0-2.false (omega arith) in
    c.joined-then-x-eq0.ensures ∙ sub_fields _ t m ∙ sym (wide_subnormal 8 23 11 52 _ _ _ c.if-x-eq255.false c.if-x-eq0.true c.if-t-eq0-2.false)

pub returns : goal.returns
unfolding widen_of bias
returns c = c.joined-2.ensures ∙ sym (wide_normal 8 23 11 52 _ _ _ c.if-x-eq255.false c.if-x-eq0.false)
