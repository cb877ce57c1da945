-- `face_record::pair_said`: by how the words are judged.
use mathlib.Core.Path.{sym, ◌∙◌}
use native.Mathlib.Omega.{arith}
use Rattle.face_record.proofs.Laws.{judged_room, pair_there, pair_past, pair_unfit}
use Rattle.face_record.proofs.pair_said.Goals as goal

pub bounds-words-at : goal.bounds-words-at
bounds-words-at c = omega (arith, judged_room _ (sym c.if-number-eq0.true ∙ c.judged-number.ensures), c.if-field-lt646.true)

pub bounds-words-at-then-field-lt646 : goal.bounds-words-at-then-field-lt646
bounds-words-at-then-field-lt646 c = omega (arith, judged_room _ (sym c.if-number-eq0.true ∙ c.judged-number.ensures), c.if-field-lt646.true)

pub returns-then-field-lt646 : goal.returns-then-field-lt646
returns-then-field-lt646 c = pair_there _ c.judged-number.ensures c.if-number-eq0.true _ c.if-field-lt646.true

pub returns-then-number-eq0 : goal.returns-then-number-eq0
returns-then-number-eq0 c = pair_past _ c.judged-number.ensures c.if-number-eq0.true _ c.if-field-lt646.false

pub returns : goal.returns
returns c = pair_unfit _ c.judged-number.ensures c.if-number-eq0.false _
