-- `text_utf8::check` meets its contract. The loop's invariant: what `scan` answers from `i` on is the answer for the whole.
use mathlib.Core.Path.{refl, sym, ◌∙◌}
use Prim.Native.Nat.{◌≤◌, ◌+◌}
use native.Mathlib.Omega.{arith}
use lib.ListN.{length, drop_of_length-le}
use Rattle.text_utf8.specs.Check.{check_of, scan}
use Rattle.text_utf8.proofs.Scan.{bad, next, ends}
use Rattle.text_utf8.proofs.check.Goals.{Else-w-eq0}
use Rattle.text_utf8.proofs.check.Goals as goal

pub loop-i-init : goal.loop-i-init
unfolding check_of
loop-i-init c = (omega arith, refl)

pub returns-then-w-eq0 : goal.returns-then-w-eq0
returns-then-w-eq0 c =
    sym (c.loop-i.invariant.1 ∙ bad c.args.s.now c.loop-i.i c.loop-i-test.true (sym c.width_at-w.ensures ∙ c.if-w-eq0.true))

-- after a turn `i` is still within the slice
within_slice : (c : Else-w-eq0) → c.loop-i.i + c.width_at-w.result ≤ length c.args.s.now
within_slice c =
    ends c.args.s.now c.loop-i.i c.width_at-w.result (omega arith) c.width_at-w.ensures

pub overflow_add-i : goal.overflow_add-i
overflow_add-i c = omega (arith, within_slice c)

pub loop-i-smaller : goal.loop-i-smaller
loop-i-smaller c = omega (arith, within_slice c, c.if-w-eq0.false)

pub loop-i-preserved : goal.loop-i-preserved
loop-i-preserved c = (
  within_slice c,
  c.loop-i.invariant.1 ∙ next c.args.s.now c.loop-i.i c.loop-i-test.true _ c.width_at-w.ensures c.if-w-eq0.false,
)

pub returns : goal.returns
unfolding scan
returns c =
    sym (c.loop-i.invariant.1 ∙ rw (drop_of_length-le c.args.s.now c.loop-i-test.false))
