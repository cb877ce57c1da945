-- `trail_last::has_room` meets its contract.
use Rattle.trail_last.proofs.Laws.{room_short, room_long, room_as}
use Rattle.trail_last.proofs.has_room.Goals as goal

pub returns-then-buffer-bytes : goal.returns-then-buffer-bytes
returns-then-buffer-bytes c = room_short _ _ _ c.if-buffer-bytes.true

pub returns-then-file-gt-FILE_LIMIT : goal.returns-then-file-gt-FILE_LIMIT
returns-then-file-gt-FILE_LIMIT c = room_long _ _ _ c.if-file-gt-FILE_LIMIT.true

pub returns : goal.returns
returns c = room_as _ _ _ c.if-buffer-bytes.false c.if-file-gt-FILE_LIMIT.false
