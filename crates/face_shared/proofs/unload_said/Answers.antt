-- `face_shared::unload_said`: the side, then the unload.
use Rattle.face_shared.specs.Answers.{held_at}
use Rattle.face_shared.proofs.Laws.{unload_past, unload_side}
use Rattle.face_shared.proofs.unload_said.Goals as goal

pub returns-then-side-gt-TOP : goal.returns-then-side-gt-TOP
returns-then-side-gt-TOP c =
    let a = c.args in
    unload_past a.side (held_at a.held.now) (held_at a.other.now) a.questions.now a.patterns.now a.trees.now a.records.now a.values.now c.if-side-gt-TOP.true

pub returns : goal.returns
returns c =
    let a = c.args in
    unload_side a.side (held_at a.held.now) (held_at a.other.now) a.questions.now a.patterns.now a.trees.now a.records.now a.values.now c.if-side-gt-TOP.false c.bounds.ensures c.bounds-2.ensures c.unload.ensures
