-- `larsavim::larsavim_needs`: too short, or written.
use Rattle.face_put.specs.Put.{needed_numbers}
use Rattle.larsavim.proofs.Laws.{short, full}
use Rattle.larsavim.proofs.larsavim_needs.Goals as goal

pub returns-then-out-lt-NEEDS_OUT : goal.returns-then-out-lt-NEEDS_OUT
returns-then-out-lt-NEEDS_OUT c = short _ _ _ _ c.if-out-lt-NEEDS_OUT.true

pub returns : goal.returns
returns c = full _ _ (λ x. x.number) needed_numbers _ _ _ c.if-out-lt-NEEDS_OUT.false c.needs_said-needed.ensures c.put_needed.ensures
