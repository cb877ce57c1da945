-- `link_names::first_left`: those before are gone.
use native.Mathlib.Omega.{arith}
use Rattle.link_names.specs.Names.{off, none}
use Rattle.link_names.proofs.Laws.{gone_not}
use Rattle.link_names.proofs.first_left.Goals as goal

pub returns-then-keys-j-ne0 : goal.returns-then-keys-j-ne0
returns-then-keys-j-ne0 c = off c.loop-j-test.true (gone_not _ c.if-keys-j-ne0.true) c.loop-j.invariant

pub returns : goal.returns
returns c = none (λ i h. c.loop-j.invariant i (omega (arith, c.loop-j-test.false)))
