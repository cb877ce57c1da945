-- `trail_find::find_offset`: among the rows that are left, so many of the model before it.
use mathlib.Core.Path.{◌≡◌}
use mathlib.Core.Logic.{inl, inr}
use Prim.Native.Nat.{◌+◌, ◌*◌, ◌-◌}
use native.Mathlib.Omega.{arith}
use Rattle.trail_find.proofs.Laws.{found_here, found_on, found_none}
use Rattle.trail_find.proofs.find_offset.Goals.{then-word-model+else-before-eq0, else-word-model}
use Rattle.trail_find.proofs.find_offset.Goals as goal

pub loop-row-init : goal.loop-row-init
loop-row-init c =
    let a = c.args in
    let i : a.begin + 12 * 0 ≡ a.begin = omega arith in
    let n : a.count - 0 ≡ a.count = omega arith in
    rw (i, n)

pub returns-then-before-eq0 : goal.returns-then-before-eq0
returns-then-before-eq0 c =
    let l = c.loop-row in
    let a = c.args in
    found_here a.s.now a.model _ _ _ l.invariant (omega arith) c.word.ensures c.if-word-model.true c.if-before-eq0.true c.word-then-before-eq0.ensures

pub loop-row-preserved : goal.loop-row-preserved
loop-row-preserved c =
    let l = c.loop-row in
    let a = c.args in
    let i : a.begin + 12 * (l.row + 1) ≡ a.begin + 12 * l.row + 12 = omega arith in
    let n : a.count - (l.row + 1) ≡ a.count - l.row - 1 = omega arith in
    rw (i, n)
    (found_on a.s.now a.model _ _ _ l.invariant (omega arith) c.word.ensures (elim c.if-word-model.branch [ then-word-model+else-before-eq0 x ↦ inl (x.if-word-model.true, x.if-before-eq0.false, x.before-is) | else-word-model x ↦ inr (x.if-word-model.false, x.before-is) ]))

pub returns : goal.returns
returns c = found_none c.args.s.now c.args.model _ _ _ c.loop-row.invariant (omega arith)
