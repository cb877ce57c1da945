-- `face_write::length_said`: the answer in numbers.
use Rattle.face_write.specs.Answers.{wrote_by, length_said}
use mathlib.Core.Path.{ap, ◌∙◌}
use Rattle.face_write.proofs.length_said.Goals as goal

pub returns : goal.returns
unfolding length_said
returns c = c.wrote_of.ensures ∙ ap wrote_by c.measure.ensures
