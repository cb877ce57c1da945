-- `walk_leaves::values_fit`: no values, a start past the table, or by the room behind the start.
use Rattle.walk_leaves.proofs.Judged.{no_entries, no_width, starts_past, by_room}
use Rattle.walk_leaves.proofs.values_fit.Goals as goal

pub returns-then-entries-eq0 : goal.returns-then-entries-eq0
returns-then-entries-eq0 c = let a = c.args in no_entries a.values.now a.first a.entries a.width c.if-entries-eq0.true

pub returns-then-width-eq0 : goal.returns-then-width-eq0
returns-then-width-eq0 c = let a = c.args in no_width a.values.now a.first a.entries a.width c.if-width-eq0.true

pub returns-then-len-first : goal.returns-then-len-first
returns-then-len-first c = let a = c.args in starts_past a.values.now a.first a.entries a.width c.if-entries-eq0.false c.if-width-eq0.false c.if-len-first.true

pub returns : goal.returns
returns c = let a = c.args in by_room a.values.now a.first a.entries a.width c.if-entries-eq0.false c.if-width-eq0.false c.if-len-first.false
