-- `house_types::new_name`: no name below k has the bytes of the i-th.
use mathlib.Core.Path.{refl}
use Rattle.house_types.proofs.Laws.{name_on, name_twice, name_new}
use Rattle.house_types.proofs.new_name.Goals as goal

pub returns-then-same_part : goal.returns-then-same_part
returns-then-same_part c = name_twice _ _ c.requires.1 c.loop-k-test.true c.type_at.ensures c.type_at-name.ensures c.same_part.ensures c.if-same_part.true refl c.loop-k.invariant

pub loop-k-preserved : goal.loop-k-preserved
loop-k-preserved c = name_on _ _ c.requires.1 c.loop-k-test.true c.type_at.ensures c.type_at-name.ensures c.same_part.ensures c.if-same_part.false refl c.loop-k.invariant

pub returns : goal.returns
returns c = name_new _ _ c.loop-k-test.false c.loop-k.invariant
