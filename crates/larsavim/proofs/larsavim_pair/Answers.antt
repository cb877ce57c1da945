-- `larsavim::larsavim_pair`: too short, or written.
use Rattle.larsavim.specs.Face.{pair_numbers}
use Rattle.larsavim.proofs.Laws.{short, full}
use Rattle.larsavim.proofs.larsavim_pair.Goals as goal

pub returns-then-out-lt-PAIR_OUT : goal.returns-then-out-lt-PAIR_OUT
returns-then-out-lt-PAIR_OUT c = short _ _ _ _ c.if-out-lt-PAIR_OUT.true

pub returns : goal.returns
returns c = full _ _ (λ x. x.number) pair_numbers _ _ _ c.if-out-lt-PAIR_OUT.false c.pair_said-pair.ensures c.put3.ensures
