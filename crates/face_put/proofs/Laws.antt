-- How answers are written part by part.
use mathlib.Core.Path.{◌≡◌, sym, ap, ◌∙◌}
use mathlib.Core.Bool.{Bool, cond}
use mathlib.Core.List.{List, [], ◌∷◌}
use Prim.Native.Nat.{ℕ}
use borrow.Author.Tests.{eq-eqb, ne_eqb}
use lib.ListN.{set}
use lib.Seq.{sets}
use Rattle.face_model.specs.declared.Needed.{Needed}
use Rattle.face_model.specs.declared.Rows.{Rows}
use Rattle.face_put.specs.Put.{needed_numbers, rows_numbers, held_left}

-- ---- answers written part by part

pub rows_written : (x : Rows) (t t₁ t₂ : List ℕ) → t₁ ≡ sets t 0 (x.number ∷ x.place ∷ x.line ∷ x.questions ∷ []) → t₂ ≡ sets t₁ 4 (x.patterns ∷ x.trees ∷ x.records ∷ x.values ∷ [])
    → t₂ ≡ sets t 0 (rows_numbers x)
rows_written x t t₁ t₂ e₁ e₂ = e₂ ∙ ap (λ (u : List ℕ). sets u 4 (x.patterns ∷ x.trees ∷ x.records ∷ x.values ∷ [])) e₁

pub needed-written : (x : Needed) (t t₁ t₂ t₃ : List ℕ) → t₁ ≡ sets t 0 (x.number ∷ x.place ∷ x.line ∷ x.questions ∷ []) → t₂ ≡ sets t₁ 4 (x.patterns ∷ x.trees ∷ x.records ∷ x.values ∷ [])
    → t₃ ≡ sets t₂ 8 (x.work ∷ x.width ∷ []) → t₃ ≡ sets t 0 (needed_numbers x)
needed-written x t t₁ t₂ t₃ e₁ e₂ e₃ =
    e₃ ∙ ap (λ (u : List ℕ). sets u 8 (x.work ∷ x.width ∷ [])) (e₂ ∙ ap (λ (u : List ℕ). sets u 4 (x.patterns ∷ x.trees ∷ x.records ∷ x.values ∷ [])) e₁)

-- ---- a task's bounds

pub keep_done : (x : Rows) (t t₁ : List ℕ) → x.number ≡ 0 → t₁ ≡ sets t 0 (x.questions ∷ x.patterns ∷ x.trees ∷ x.records ∷ []) → set t₁ 4 x.values ≡ held_left x t
unfolding held_left
keep_done x t t₁ z e =
    ap (λ (u : List ℕ). set u 4 x.values) e
    ∙ sym (ap (λ (b : Bool). cond b (sets t 0 (x.questions ∷ x.patterns ∷ x.trees ∷ x.records ∷ x.values ∷ [])) t) (eq-eqb x.number 0 z))

pub keep_not : (x : Rows) (t : List ℕ) → (x.number ≡ 0 → ⊥) → t ≡ held_left x t
unfolding held_left
keep_not x t z = sym (ap (λ (b : Bool). cond b (sets t 0 (x.questions ∷ x.patterns ∷ x.trees ∷ x.records ∷ x.values ∷ [])) t) (ne_eqb x.number 0 z))
