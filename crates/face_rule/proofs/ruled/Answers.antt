-- `face_rule::ruled`: 30 or 31, else what a model broke.
use mathlib.Core.Path.{ap, ◌∙◌}
use Prim.Native.Nat.{ℕ}
use Rattle.face_rule.specs.Answers.{ruled_by}
use Rattle.face_rule.proofs.Laws.{ruled_type, ruled_model}
use Rattle.face_rule.proofs.ruled.Goals as goal

pub returns-then-number-eq0 : goal.returns-then-number-eq0
returns-then-number-eq0 c = c.told.ensures ∙ ruled_model _ c.args.first c.if-number-eq0.true ∙ ap (λ (n : ℕ). ruled_by n c.args.first) c.judge_types-number.ensures

pub returns : goal.returns
returns c = c.told-2.ensures ∙ ruled_type _ c.args.first c.if-number-eq0.false ∙ ap (λ (n : ℕ). ruled_by n c.args.first) c.judge_types-number.ensures
