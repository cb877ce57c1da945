-- `face_write::wrote_of`: the length, or the number of what keeps the text.
use mathlib.Core.Path.{sym, ap, ◌∙◌}
use Prim.Native.Nat.{ℕ}
use Rattle.face_write.specs.Answers.{wrote_by}
use Rattle.face_write.specs.declared.Wrote.{Wrote}
use Rattle.face_write.proofs.wrote_of.Goals as goal

pub returns-in-Ok : goal.returns-in-Ok
returns-in-Ok c = sym (ap wrote_by c.in-Ok.is)

abbrev numbered : ℕ → Wrote
numbered n = record { number = n; len = 0 }

pub returns-in-Err : goal.returns-in-Err
returns-in-Err c = ap numbered c.number_of.ensures ∙ sym (ap wrote_by c.in-Err.is)
