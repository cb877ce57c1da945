-- `label_answers::bytes_fit`: none, a start past the data, or by the room behind the start.
use Rattle.label_answers.proofs.Laws.{no_bytes, starts_past, by_room}
use Rattle.label_answers.proofs.bytes_fit.Goals as goal

pub returns-then-len-eq0 : goal.returns-then-len-eq0
returns-then-len-eq0 c = let a = c.args in no_bytes a.«data».now a.start a.len c.if-len-eq0.true

pub returns-then-all-start : goal.returns-then-all-start
returns-then-all-start c = let a = c.args in starts_past a.«data».now a.start a.len c.if-len-eq0.false c.if-all-start.true

pub returns : goal.returns
returns c = let a = c.args in by_room a.«data».now a.start a.len c.if-len-eq0.false c.if-all-start.false
