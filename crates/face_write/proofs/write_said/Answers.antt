-- `face_write::write_said`: the answer in numbers.
use Rattle.face_write.specs.Answers.{wrote_by, write_said, write_left}
use mathlib.Core.Path.{ap, ◌∙◌}
use Rattle.face_write.proofs.write_said.Goals as goal

pub returns : goal.returns
unfolding write_said write_left
returns c = record { said = c.wrote_of.ensures ∙ ap wrote_by c.write_tables.ensures.answer_is; left = c.write_tables.ensures.buffer_is }
