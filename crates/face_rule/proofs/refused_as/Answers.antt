-- `face_rule::refused_as`: number, place and line of a refusal.
use mathlib.Core.Path.{◌∙◌}
use Rattle.face_rule.specs.Answers.{house}
use Rattle.face_rule.proofs.refused_as.Goals as goal

pub returns : goal.returns
returns c = c.told.ensures ∙ (λ i. house (c.number.ensures i) (c.place.ensures i) (c.line.ensures i) c.args.model)
