-- `larsavim::larsavim_walk`: too short, or written.
use Rattle.larsavim.specs.Face.{ended_numbers}
use Rattle.larsavim.proofs.Laws.{short, full}
use Rattle.larsavim.proofs.larsavim_walk.Goals as goal

pub returns-then-out-lt-WALK_OUT : goal.returns-then-out-lt-WALK_OUT
returns-then-out-lt-WALK_OUT c = short _ _ _ _ c.if-out-lt-WALK_OUT.true

pub returns : goal.returns
returns c = full _ _ (λ x. x.number) ended_numbers _ _ _ c.if-out-lt-WALK_OUT.false c.walk_said-ended.ensures c.put3.ensures
