-- `face_shared::standing`: the side, then the bounds.
use Rattle.face_shared.proofs.Laws.{standing_past, standing_in}
use Rattle.face_shared.proofs.standing.Goals as goal

pub returns-then-side-gt-TOP : goal.returns-then-side-gt-TOP
returns-then-side-gt-TOP c = standing_past _ _ c.if-side-gt-TOP.true

pub returns : goal.returns
returns c = standing_in _ _ c.if-side-gt-TOP.false c.stand.ensures
