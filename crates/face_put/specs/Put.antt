-- The numbers of answers that several calls give, in their order, and a task's bounds after a load.
use Rattle.std.specs.Prelude.{cond, List, [], ◌∷◌, ℕ, eqb}
use Rattle.std.proofs.lemmas.List.Edits.{sets}
use Rattle.face_model.specs.declared.Needed.{Needed}
use Rattle.face_model.specs.declared.Rows.{Rows}

abbrev pub needed_numbers : Needed → List ℕ
needed_numbers x =
    x.number ∷ x.place ∷ x.line ∷ x.questions ∷ x.patterns ∷ x.trees ∷ x.records ∷ x.values ∷ x.work ∷ x.width ∷ []

abbrev pub rows_numbers : Rows → List ℕ
rows_numbers x = x.number ∷ x.place ∷ x.line ∷ x.questions ∷ x.patterns ∷ x.trees ∷ x.records ∷ x.values ∷ []

-- a task's bounds after a load that answers x
unfoldable pub held_left : Rows → List ℕ → List ℕ
held_left x held = cond (eqb x.number 0) (sets held 0 (x.questions ∷ x.patterns ∷ x.trees ∷ x.records ∷ x.values ∷ [])) held
