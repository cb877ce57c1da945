-- `trail_voice::same_model`: the rows of its text.
use mathlib.Core.Path.{sym, ◌∙◌}
use native.Mathlib.Omega.{arith}
use Rattle.head_words.specs.Words.{header_at}
use Rattle.trail_voice.proofs.Laws.{text_room, text_rows_lem, rows_refused, same_as, other_as, none_as}
use Rattle.trail_voice.proofs.same_model.Goals as goal

pub same_rows-requires : goal.same_rows-requires
same_rows-requires c = omega (arith, (text_room c.args.file.now (header_at c.args.words.now) c.args.which (sym c.in-Ok.is ∙ c.model_text.ensures) c.data_of.ensures c.up_to-s.ensures).0, c.requires.which_in_bounds)

pub overflow_mul-result : goal.overflow_mul-result
overflow_mul-result c = omega (arith, (text_room c.args.file.now (header_at c.args.words.now) c.args.which (sym c.in-Ok.is ∙ c.model_text.ensures) c.data_of.ensures c.up_to-s.ensures).1, c.requires.which_in_bounds, c.well_formed)

pub overflow_add-result : goal.overflow_add-result
overflow_add-result c = omega (arith, (text_room c.args.file.now (header_at c.args.words.now) c.args.which (sym c.in-Ok.is ∙ c.model_text.ensures) c.data_of.ensures c.up_to-s.ensures).1, c.requires.which_in_bounds, c.well_formed)

pub returns-then-same_rows : goal.returns-then-same_rows
returns-then-same_rows c =
    let a = c.args in
    let q = sym c.in-Ok.is ∙ c.model_text.ensures in
    let r = text_rows_lem a.file.now (header_at a.words.now) a.which q c.data_of.ensures c.up_to-s.ensures c.number_of.ensures in
    same_as a.file.now a.k _ (text_room a.file.now (header_at a.words.now) a.which q c.data_of.ensures c.up_to-s.ensures).1 c.same_rows.ensures r c.if-same_rows.true

pub returns-in-Err : goal.returns-in-Err
returns-in-Err c = none_as c.args.file.now c.args.k (rows_refused c.args.file.now (header_at c.args.words.now) c.args.which (sym c.in-Err.is ∙ c.model_text.ensures))

pub returns-else-same_rows : goal.returns-else-same_rows
returns-else-same_rows c =
    let a = c.args in
    let q = sym c.in-Ok.is ∙ c.model_text.ensures in
    let r = text_rows_lem a.file.now (header_at a.words.now) a.which q c.data_of.ensures c.up_to-s.ensures c.number_of.ensures in
    other_as a.file.now a.k c.same_rows.ensures r c.if-same_rows.false
