-- `face_load::rows_of`: by how the load ends.
use mathlib.Core.Path.{sym, ap, ◌∙◌}
use Rattle.face_model.specs.Answers.{no_rows, rows_by}
use Rattle.face_load.proofs.rows_of.Goals as goal

pub returns-in-Ok : goal.returns-in-Ok
returns-in-Ok c = ap rows_by (sym c.in-Ok.is)

pub returns-in-Err : goal.returns-in-Err
returns-in-Err c = c.no_rows.ensures ∙ (λ z. no_rows (c.number.ensures z) (c.place.ensures z) (c.line.ensures z)) ∙ ap rows_by (sym c.in-Err.is)
