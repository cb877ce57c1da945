-- `face_record::get_said`: by how the words are judged.
use mathlib.Core.Path.{sym, ◌∙◌}
use native.Mathlib.Omega.{arith}
use Rattle.face_record.proofs.Laws.{judged_room, get_there, get_past, get-unfit}
use Rattle.face_record.proofs.get_said.Goals as goal

pub bounds-words-field : goal.bounds-words-field
bounds-words-field c = omega (arith, judged_room _ (sym c.if-number-eq0.true ∙ c.judged-number.ensures), c.if-field.true)

pub returns-then-field : goal.returns-then-field
returns-then-field c = get_there _ c.judged-number.ensures c.if-number-eq0.true _ c.if-field.true

pub returns-then-number-eq0 : goal.returns-then-number-eq0
returns-then-number-eq0 c = get_past _ c.judged-number.ensures c.if-number-eq0.true _ c.if-field.false

pub returns : goal.returns
returns c = get-unfit _ c.judged-number.ensures c.if-number-eq0.false _
