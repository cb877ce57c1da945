-- `head_group_words::known` meets its contract: the names from k on give the answer.
use mathlib.Core.Path.{◌≡◌, sym, ◌∙◌}
use Prim.Native.Nat.{◌+◌, ◌-◌, ◌*◌, ◌≤◌}
use native.Mathlib.Nat.{mul-le-mul_left}
use native.Mathlib.Omega.{arith}
use lib.ListN.{length}
use Rattle.head_brackets.specs.Rows.{known_in}
use Rattle.head_brackets.proofs.Rows.{known_on, known_here, known_past, known_end}
use Rattle.head_group_words.proofs.Limits.{same_at}
use Rattle.head_group_words.proofs.known.Goals.{Then-k-lt8, then-k-lt8+else-same_part, else-k-lt8}
use Rattle.head_group_words.proofs.known.Goals as goal

-- the words of the name stand inside
inside : (c : Then-k-lt8) → c.args.at + c.args.width * c.loop-k.k + 2 ≤ length c.args.words.now
inside c = omega (arith, mul-le-mul_left {m = c.loop-k.k + 1} {n = 8} c.args.width (omega arith))

pub loop-k-init : goal.loop-k-init
unfolding known_in
loop-k-init c = let e : c.args.n - 0 ≡ c.args.n = omega arith in rw e

pub overflow_mul-place : goal.overflow_mul-place
overflow_mul-place c = omega (arith, inside c)

pub overflow_add-place : goal.overflow_add-place
overflow_add-place c = omega (arith, inside c)

pub offset_bounds-words-place : goal.offset_bounds-words-place
offset_bounds-words-place c = omega (arith, inside c)

pub bounds-words-place : goal.bounds-words-place
bounds-words-place c = omega (arith, inside (goal.at.bounds-words-place c).Then-k-lt8)

pub overflow_add-name : goal.overflow_add-name
overflow_add-name c = omega (arith, inside (goal.at.overflow_add-name c).Then-k-lt8)

pub offset_bounds-words-place-then-k-lt8 : goal.offset_bounds-words-place-then-k-lt8
offset_bounds-words-place-then-k-lt8 c = omega (arith, inside (goal.at.offset_bounds-words-place-then-k-lt8 c).Then-k-lt8)

pub bounds-words-place-then-k-lt8 : goal.bounds-words-place-then-k-lt8
bounds-words-place-then-k-lt8 c = omega (arith, inside (goal.at.bounds-words-place-then-k-lt8 c).Then-k-lt8)

pub returns-then-same_part : goal.returns-then-same_part
returns-then-same_part c =
    sym (c.loop-k.invariant
    ∙ known_here _ _ _ _ _ c.loop-k-test.true c.if-k-lt8.true
    (same_at _ _ _ _ _ _ c.if-k-lt8.true ∙ sym c.same_part.ensures ∙ c.if-same_part.true))

pub loop-k-preserved : goal.loop-k-preserved
loop-k-preserved c =
    c.loop-k.invariant
    ∙ elim c.if-k-lt8.branch [
      | then-k-lt8+else-same_part x ↦ known_on _ _ _ _ _ c.loop-k-test.true x.if-k-lt8.true (same_at _ _ _ _ _ _ x.if-k-lt8.true ∙ sym x.same_part.ensures ∙ x.if-same_part.false)
      | else-k-lt8 x ↦ known_past _ _ _ _ _ x.if-k-lt8.false
    ]

pub returns : goal.returns
returns c = sym (c.loop-k.invariant ∙ known_end _ _ _ _ _ c.loop-k-test.false)
