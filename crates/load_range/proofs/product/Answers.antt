-- `load_range::product` meets its contract.
use Prim.Native.Nat.{◌<◌}
use Rattle.load_range.proofs.Laws.{none_left, none_right, large_left, large_right, small}
use native.Mathlib.Omega.{arith}
use mathlib.Core.Path.{sym}
use Rattle.load_range.proofs.product.Goals as goal

pub returns-then-a-eq0 : goal.returns-then-a-eq0
returns-then-a-eq0 c = sym (none_left _ _ c.if-a-eq0.true)

pub returns-then-b-eq0 : goal.returns-then-b-eq0
returns-then-b-eq0 c = sym (none_right _ _ c.if-b-eq0.true)

pub returns-then-a-gt-WIDTH_LIMIT : goal.returns-then-a-gt-WIDTH_LIMIT
returns-then-a-gt-WIDTH_LIMIT c = let h : 0 < c.args.b = omega arith in sym (large_left _ _ c.if-a-gt-WIDTH_LIMIT.true h)

pub returns-then-b-gt-WIDTH_LIMIT : goal.returns-then-b-gt-WIDTH_LIMIT
returns-then-b-gt-WIDTH_LIMIT c = let h : 0 < c.args.a = omega arith in sym (large_right _ _ h c.if-b-gt-WIDTH_LIMIT.true)

pub overflow_mul-p : goal.overflow_mul-p
overflow_mul-p c = omega (arith, small c.args.a c.args.b c.if-a-gt-WIDTH_LIMIT.false c.if-b-gt-WIDTH_LIMIT.false)
