-- `label_match::stands_last`: no room for the part, or at the very end.
use Rattle.label_match.proofs.Laws.{last_short, last_stands}
use Rattle.label_match.proofs.stands_last.Goals as goal

pub returns-then-room-part : goal.returns-then-room-part
returns-then-room-part c = let p = c.requires in last_short _ _ _ p.1 p.0 c.if-room-part.true

pub returns : goal.returns
returns c = let p = c.requires in last_stands _ _ _ p.1 p.0 c.if-room-part.false c.stands.ensures
