-- `face_model::needs_said`: by how the words are judged, then by the plan.
use mathlib.Core.Path.{sym, ◌∙◌}
use native.Mathlib.Omega.{arith}
use Rattle.face_record.proofs.Laws.{judged_room}
use Rattle.face_model.specs.Answers.{not_needed}
use Rattle.face_model.proofs.Laws.{values_small, needs_model, needs_refused, needs_unfit}
use Rattle.face_model.proofs.needs_said.Goals as goal

pub needs-requires : goal.needs-requires
needs-requires c = judged_room _ (sym c.if-number-eq0.true ∙ c.judged-number.ensures)

pub needed_for-requires : goal.needed_for-requires
needed_for-requires c = values_small c.args.file.now _ _ _ (sym c.in-Ok.is ∙ c.needs.ensures) (omega (arith, c.well_formed))

pub returns-in-Ok : goal.returns-in-Ok
returns-in-Ok c = needs_model _ _ _ c.judged-number.ensures c.if-number-eq0.true c.which_of.ensures c.needs.ensures c.in-Ok.is c.needed_for.ensures

pub returns-in-Err : goal.returns-in-Err
returns-in-Err c = needs_refused _ _ _ c.judged-number.ensures c.if-number-eq0.true c.which_of.ensures c.needs.ensures c.in-Err.is (c.not_needed.ensures ∙ (λ z. not_needed (c.number.ensures z) (c.place.ensures z) (c.line.ensures z)))

pub returns : goal.returns
returns c = c.not_needed-2.ensures ∙ needs_unfit _ _ _ c.judged-number.ensures c.if-number-eq0.false
