-- `head_put::put_ranges`: what is left to write gives the whole.
use mathlib.Core.Path.{refl}
use native.Mathlib.Omega.{arith}
use Rattle.head_words.proofs.Items.{laying_none, laying_more, laying_done}
use Rattle.head_put.proofs.put_ranges.Goals as goal

pub loop-k-init : goal.loop-k-init
loop-k-init c = laying_none _ _ _ _ _

pub put2-requires : goal.put2-requires
put2-requires c = omega (arith, c.loop-k.invariant.long, c.loop-k-test.true, c.requires)

pub loop-k-preserved : goal.loop-k-preserved
loop-k-preserved c = laying_more _ _ _ _ _ _ _ c.loop-k.invariant _ c.put2.ensures refl c.loop-k-test.true

pub shape_of-words : goal.shape_of-words
shape_of-words c = c.loop-k.invariant.long

pub returns : goal.returns
returns c = laying_done _ _ _ _ _ _ _ c.loop-k.invariant c.loop-k-test.false
