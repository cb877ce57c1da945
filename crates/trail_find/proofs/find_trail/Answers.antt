-- `trail_find::find_trail`: by the count and the beginning in the last 12 bytes.
use mathlib.Core.Path.{refl}
use Rattle.trail_find.proofs.Laws.{trail_short, trail_rows, trail_elsewhere}
use Rattle.trail_find.proofs.find_trail.Goals as goal

pub returns-then-len-lt12 : goal.returns-then-len-lt12
returns-then-len-lt12 c = trail_short _ _ c.if-len-lt12.true

pub returns-then-begin-count : goal.returns-then-begin-count
returns-then-begin-count c = trail_rows _ _ c.if-len-lt12.false refl c.word-count.ensures c.word-begin.ensures c.if-begin-count.true

pub returns : goal.returns
returns c = trail_elsewhere _ _ c.if-len-lt12.false refl c.word-count.ensures c.word-begin.ensures c.if-begin-count.false
