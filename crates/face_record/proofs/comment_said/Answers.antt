-- `face_record::comment_said`: by how the words are judged.
use mathlib.Core.Path.{sym, ◌∙◌}
use native.Mathlib.Omega.{arith}
use Rattle.face_record.proofs.Laws.{judged_room, comment_fit, comment_unfit}
use Rattle.face_record.proofs.comment_said.Goals as goal

pub bounds-words-94 : goal.bounds-words-94
bounds-words-94 c = omega (arith, judged_room _ (sym c.if-number-eq0.true ∙ c.judged-number.ensures))

pub bounds-words-92 : goal.bounds-words-92
bounds-words-92 c = omega (arith, judged_room _ (sym c.if-number-eq0.true ∙ c.judged-number.ensures))

pub bounds-words : goal.bounds-words
bounds-words c = omega (arith, judged_room _ (sym c.if-number-eq0.true ∙ c.judged-number.ensures))

pub returns-then-number-eq0 : goal.returns-then-number-eq0
returns-then-number-eq0 c = comment_fit _ c.judged-number.ensures c.if-number-eq0.true _ _ c.comment_in.ensures

pub returns : goal.returns
returns c = comment_unfit _ c.judged-number.ensures c.if-number-eq0.false _ _
