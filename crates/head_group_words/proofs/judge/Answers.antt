-- `head_group_words::judge` meets its contract: the counts from k on pass no limit.
use mathlib.Core.Path.{◌≡◌, refl, ◌∙◌}
use Prim.Native.Nat.{◌-◌, ◌*◌, ◌≤◌}
use native.Mathlib.Nat.{mul-le-mul_left}
use native.Mathlib.Omega.{arith}
use borrow.Author.Tests.{lt-ltb, le-ltb}
use Rattle.head_group_words.specs.Groups.{many_at, judged_in}
use Rattle.head_group_words.proofs.Limits.{many_here, many_on}
use Rattle.head_group_words.proofs.judge.Goals.{In-loop-k}
use Rattle.head_group_words.proofs.judge.Goals as goal

-- the count of the next group stands inside
inside : (c : In-loop-k) → c.args.width * (c.loop-k.k - 1) ≤ c.args.width * 7
inside c = mul-le-mul_left c.args.width (omega arith)

pub returns-then-n-gt8 : goal.returns-then-n-gt8
unfolding judged_in
returns-then-n-gt8 c = rw (lt-ltb _ _ c.if-n-gt8.true)

pub loop-k-init : goal.loop-k-init
loop-k-init c = (omega arith, refl)

pub overflow_mul-width : goal.overflow_mul-width
overflow_mul-width c = omega (arith, inside c)

pub overflow_add-at : goal.overflow_add-at
overflow_add-at c = omega (arith, inside c)

pub offset_bounds-words-at : goal.offset_bounds-words-at
offset_bounds-words-at c = omega (arith, inside c)

pub bounds-words-at : goal.bounds-words-at
bounds-words-at c = omega (arith, inside (goal.at.bounds-words-at c).In-loop-k)

pub returns-then-limit-words : goal.returns-then-limit-words
unfolding judged_in
returns-then-limit-words c =
    rw (le-ltb _ _ c.if-n-gt8.false, c.loop-k.invariant.1 ∙ many_here _ _ _ _ _ c.loop-k-test.true c.if-limit-words.true)

pub loop-k-preserved : goal.loop-k-preserved
loop-k-preserved c =
    (omega arith, c.loop-k.invariant.1 ∙ many_on _ _ _ _ _ c.loop-k-test.true c.if-limit-words.false)

pub returns : goal.returns
unfolding judged_in many_at
returns c = let e : c.loop-k.k ≡ 0 = omega arith in rw (le-ltb _ _ c.if-n-gt8.false, c.loop-k.invariant.1, e)
