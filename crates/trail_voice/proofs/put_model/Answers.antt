-- `trail_voice::put_model`: the rows of its text.
use mathlib.Core.Path.{sym, ap, ◌∙◌}
use mathlib.Core.List.{List}
use Prim.Native.Nat.{ℕ}
use native.Mathlib.Omega.{arith}
use lib.ListN.{length}
use lib.Seq.{sets}
use Rattle.written.specs.Blocks.{little_endian}
use Rattle.head_words.specs.Words.{header_at}
use Rattle.trail_voice.proofs.Laws.{text_room, text_rows_lem, rows_refused}
use Rattle.trail_voice.proofs.put_model.Goals as goal

pub put_rows-requires : goal.put_rows-requires
put_rows-requires c = omega (arith, (text_room c.args.file.now (header_at c.args.words.now) c.args.which (sym c.in-Ok.is ∙ c.model_text.ensures) c.data_of.ensures c.up_to-s.ensures).0, c.requires.which_in_bounds)

pub overflow_mul-result : goal.overflow_mul-result
overflow_mul-result c = omega (arith, (text_room c.args.file.now (header_at c.args.words.now) c.args.which (sym c.in-Ok.is ∙ c.model_text.ensures) c.data_of.ensures c.up_to-s.ensures).1, c.requires.which_in_bounds, c.well_formed)

pub overflow_add-result : goal.overflow_add-result
overflow_add-result c = omega (arith, (text_room c.args.file.now (header_at c.args.words.now) c.args.which (sym c.in-Ok.is ∙ c.model_text.ensures) c.data_of.ensures c.up_to-s.ensures).1, c.requires.which_in_bounds, c.well_formed)

pub returns-in-Err : goal.returns-in-Err
unfolding little_endian
returns-in-Err c =
    let a = c.args in
    let e = rows_refused a.file.now (header_at a.words.now) a.which (sym c.in-Err.is ∙ c.model_text.ensures) in
    (omega (arith, ap length e), sym (ap (λ (l : List ℕ). sets a.t.now a.k (little_endian l)) e))

pub returns-in-Ok : goal.returns-in-Ok
returns-in-Ok c =
    let a = c.args in
    let q = sym c.in-Ok.is ∙ c.model_text.ensures in (
      omega (arith, (text_room a.file.now (header_at a.words.now) a.which q c.data_of.ensures c.up_to-s.ensures).1),
      c.put_rows.ensures
          ∙ ap (λ (l : List ℕ). sets a.t.now a.k (little_endian l)) (text_rows_lem a.file.now (header_at a.words.now) a.which q c.data_of.ensures c.up_to-s.ensures c.number_of.ensures),
    )
