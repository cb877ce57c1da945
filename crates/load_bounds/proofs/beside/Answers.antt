-- `load_bounds::beside`: one sum, and no overflow.
use mathlib.Core.Path.{sym}
use Prim.Native.Nat.{◌+◌}
use native.Mathlib.Omega.{arith}
use borrow.Author.Tests.{lt-leb}
use Rattle.load_bounds.proofs.Laws.{beside_is}
use Rattle.load_bounds.proofs.beside.Goals as goal

pub returns-then-rows-b : goal.returns-then-rows-b
returns-then-rows-b c = let a = c.args in sym (lt-leb (a.a + a.b) a.rows (omega (arith, c.if-rows-b.true)))

pub returns : goal.returns
returns c = let a = c.args in beside_is a.rows a.a a.b (omega (arith, c.if-rows-b.false))
