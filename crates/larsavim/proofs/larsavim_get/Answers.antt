-- `larsavim::larsavim_get`: too short, or written.
use Rattle.larsavim.specs.Face.{said_numbers}
use Rattle.larsavim.proofs.Laws.{short, full}
use Rattle.larsavim.proofs.larsavim_get.Goals as goal

pub returns-then-out-lt-GET_OUT : goal.returns-then-out-lt-GET_OUT
returns-then-out-lt-GET_OUT c = short _ _ _ _ c.if-out-lt-GET_OUT.true

pub returns : goal.returns
returns c = full _ _ (λ x. x.number) said_numbers _ _ _ c.if-out-lt-GET_OUT.false c.get_said-said.ensures c.put2.ensures
