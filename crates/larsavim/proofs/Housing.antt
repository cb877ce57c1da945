-- What judging a voice promises fixes what is returned and every lent slice.
use mathlib.Core.Path.{◌≡◌, sym, ap, ◌∙◌}
use mathlib.Core.List.{List}
use mathlib.Core.Logic.{◌⊎◌, inl, inr}
use Prim.Native.Nat.{ℕ, ◌≤◌, ◌<◌}
use native.Mathlib.Omega.{arith}
use lib.Seq.{sets}
use Rattle.load_model.specs.Load.{Tables}
use Rattle.face_rule.specs.declared.House.{House}
use Rattle.face_house.specs.Answers.{house_numbers, HouseTells}

-- slices that are long enough are not too short
not_short : {a b c : ℕ} → (a < 4) ⊎ ((b < 5) ⊎ (c < 5)) → 4 ≤ a → 5 ≤ b → 5 ≤ c → ⊥
not_short (inl h) x y z = omega arith
not_short (inr (inl h)) x y z = omega arith
not_short (inr (inr h)) x y z = omega arith

pub house_once : {s w : List ℕ} {d : ℕ} {held other : List ℕ} {T : Tables} {out : List ℕ} {r r' : ℕ} {w₁ w₂ h h' : List ℕ} {T₁ T₂ : Tables} {o o' : List ℕ}
    → HouseTells s w d held other T out r w₁ h T₁ o → HouseTells s w d held other T out r' w₂ h' T₂ o' → (r ≡ r') × (w₁ ≡ w₂) × (h ≡ h') × (T₁ ≡ T₂) × (o ≡ o')
house_once (HouseTells.no_room k a b c d e) (HouseTells.no_room l a' b' c' d' e') = (a ∙ sym a', b ∙ sym b', c ∙ sym c', d ∙ sym d', e ∙ sym e')
house_once (HouseTells.no_room k a b c d e) (HouseTells.told l m n x y z t) = absurd (not_short k l m n)
house_once (HouseTells.told l m n x y z t) (HouseTells.no_room k a b c d e) = absurd (not_short k l m n)
house_once {out = out} (HouseTells.told {x = x} l m n i a b t) (HouseTells.told {x = y} l' m' n' j a' b' t') =
    let e : x ≡ y = i.0 ∙ sym j.0 in (
      a ∙ ap (λ (z : House). z.number) e ∙ sym a',
      i.1 ∙ sym j.1,
      i.2 ∙ sym j.2,
      i.3 ∙ sym j.3,
      b ∙ ap (λ (z : House). sets out 0 (house_numbers z)) e ∙ sym b',
    )
