-- `larsavim::larsavim_comment`: too short, or written.
use Rattle.larsavim.specs.Face.{part_numbers}
use Rattle.larsavim.proofs.Laws.{short, full}
use Rattle.larsavim.proofs.larsavim_comment.Goals as goal

pub returns-then-out-lt-COMMENT_OUT : goal.returns-then-out-lt-COMMENT_OUT
returns-then-out-lt-COMMENT_OUT c = short _ _ _ _ c.if-out-lt-COMMENT_OUT.true

pub returns : goal.returns
returns c = full _ _ (λ x. x.number) part_numbers _ _ _ c.if-out-lt-COMMENT_OUT.false c.comment_said-part.ensures c.put4.ensures
