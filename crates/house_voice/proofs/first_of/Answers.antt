-- `house_voice::first_of`: what is known, or the rule behind it.
use Rattle.house_voice.proofs.Laws.{first_kept, first_none, first_new}
use Rattle.house_voice.proofs.first_of.Goals as goal

pub returns-then-first-ne0 : goal.returns-then-first-ne0
returns-then-first-ne0 c = first_kept _ _ _ c.if-first-ne0.true

pub returns-then-rule-eq0 : goal.returns-then-rule-eq0
returns-then-rule-eq0 c = first_none _ _ _ c.if-first-ne0.false c.if-rule-eq0.true

pub returns : goal.returns
returns c = first_new _ _ _ c.if-first-ne0.false c.if-rule-eq0.false
