-- `face_record::judged`: by length and flags.
use mathlib.Core.Path.{sym, ◌∙◌}
use Rattle.face_record.proofs.Laws.{judged_few, judged_fit, judged_bad}
use Rattle.face_record.proofs.judged.Goals as goal

pub returns-then-words-lt-WORDS : goal.returns-then-words-lt-WORDS
returns-then-words-lt-WORDS c = judged_few _ c.if-words-lt-WORDS.true

pub returns-then-flags_fit : goal.returns-then-flags_fit
returns-then-flags_fit c = judged_fit _ c.if-words-lt-WORDS.false (sym c.flags_fit.ensures ∙ c.if-flags_fit.true)

pub returns : goal.returns
returns c = judged_bad _ c.if-words-lt-WORDS.false (sym c.flags_fit.ensures ∙ c.if-flags_fit.false)
