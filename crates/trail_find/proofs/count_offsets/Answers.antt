-- `trail_find::count_offsets`: the rows so far and those of what is left are all.
use mathlib.Core.Path.{◌≡◌}
use mathlib.Core.Logic.{inl, inr}
use Prim.Native.Nat.{◌+◌, ◌*◌, ◌-◌}
use native.Mathlib.Omega.{arith}
use Rattle.trail_find.proofs.Laws.{counted_on, counted_none}
use Rattle.trail_find.proofs.count_offsets.Goals.{then-word-model, else-word-model}
use Rattle.trail_find.proofs.count_offsets.Goals as goal

pub loop-row-init : goal.loop-row-init
loop-row-init c =
    let a = c.args in
    let i : a.begin + 12 * 0 ≡ a.begin = omega arith in
    let n : a.count - 0 ≡ a.count = omega arith in
    (rw (i, n) (omega arith), omega arith)

pub loop-row-preserved : goal.loop-row-preserved
loop-row-preserved c =
    let l = c.loop-row in
    let a = c.args in
    let i : a.begin + 12 * (l.row + 1) ≡ a.begin + 12 * l.row + 12 = omega arith in
    let n : a.count - (l.row + 1) ≡ a.count - l.row - 1 = omega arith in (
      rw (i, n)
          (counted_on a.s.now a.model _ _ l.n l.invariant.0 (omega arith) c.word.ensures (elim c.if-word-model.branch [ then-word-model x ↦ inl (x.if-word-model.true, x.n-is) | else-word-model x ↦ inr (x.if-word-model.false, x.n-is) ])),
      elim c.if-word-model.branch [ then-word-model x ↦ omega (arith, l.invariant.1, x.n-is) | else-word-model x ↦ omega (arith, l.invariant.1, x.n-is) ],
    )

pub returns : goal.returns
returns c = counted_none c.args.s.now c.args.model _ _ c.loop-row.n c.loop-row.invariant.0 (omega arith)
