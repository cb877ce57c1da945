-- `face_trail::write_opened`: by what was counted.
use mathlib.Core.Path.{sym, ap₂, ◌∙◌}
use native.Mathlib.Omega.{arith}
use Rattle.head_words.specs.Words.{header_at}
use Rattle.trail_voice.proofs.Laws.{counted}
use Rattle.face_trail.specs.Answers.{wrote}
use Rattle.face_trail.proofs.Laws.{small, rows_size, fits, fits_after, written_refused, written_none, written_done}
use Rattle.face_trail.proofs.write_opened.Goals as goal

pub overflow_mul-bytes : goal.overflow_mul-bytes
overflow_mul-bytes c = omega (arith, small c.args.file.now (header_at c.args.words.now) (sym c.in-Ok.is ∙ c.count_trees.ensures))

pub overflow_add-bytes : goal.overflow_add-bytes
overflow_add-bytes c = omega (arith, small c.args.file.now (header_at c.args.words.now) (sym c.in-Ok.is ∙ c.count_trees.ensures))

pub put_voice-requires : goal.put_voice-requires
put_voice-requires c =
    let e = sym c.in-Ok.is ∙ c.count_trees.ensures in
    let a = c.args in
    record { in_bounds = c.requires; words_value = (counted c.args.file.now (header_at c.args.words.now) e).fitting; words_in_bounds = omega (arith, rows_size c.args.file.now (header_at c.args.words.now) e, fits c.args.file.now (header_at c.args.words.now) e a.trailer.now c.has_room.ensures c.if-has_room.true) }

pub put_last-requires : goal.put_last-requires
put_last-requires c =
    let e = sym c.in-Ok.is ∙ c.count_trees.ensures in
    let a = c.args in
    fits_after c.args.file.now (header_at c.args.words.now) e a.trailer.now c.has_room.ensures c.if-has_room.true c.put_voice.ensures

pub returns-then-has_room : goal.returns-then-has_room
returns-then-has_room c = written_done c.args.file.now (header_at c.args.words.now) (sym c.in-Ok.is ∙ c.count_trees.ensures) c.args.trailer.now c.has_room.ensures c.if-has_room.true c.put_voice.ensures c.put_last.ensures

pub returns-in-Err : goal.returns-in-Err
returns-in-Err c =
    let z = written_refused c.args.file.now (header_at c.args.words.now) (sym c.in-Err.is ∙ c.count_trees.ensures) c.args.trailer.now in
    (ap₂ (λ n p. wrote n p 0) c.number.ensures c.place.ensures ∙ z.0, z.1)

pub returns-else-has_room : goal.returns-else-has_room
returns-else-has_room c = written_none c.args.file.now (header_at c.args.words.now) (sym c.in-Ok.is ∙ c.count_trees.ensures) c.args.trailer.now c.has_room.ensures c.if-has_room.false
