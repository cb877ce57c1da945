-- What `larsavim_depth` promises fixes what it returns, the work and `out`.
use mathlib.Core.Path.{◌≡◌, sym, ap, ◌∙◌}
use mathlib.Core.List.{List, [], ◌∷◌}
use Prim.Native.Nat.{ℕ}
use native.Mathlib.Omega.{arith}
use lib.IntN.{ℤ}
use lib.Seq.{sets}
use Rattle.walk_depth.specs.declared.Depth.{Depth}
use Rattle.walk_depth.proofs.Saying.{says_once}
use Rattle.larsavim.specs.Depths.{DepthTells, no_room, told}

pub depth_once : {T R : List ℕ} {t : ℕ} {w w₁ w₂ : List ℤ} {out out₁ out₂ : List ℕ} {r s : ℕ} → DepthTells T R t w out r w₁ out₁ → DepthTells T R t w out s w₂ out₂ → (r ≡ s) × (w₁ ≡ w₂) × (out₁ ≡ out₂)
depth_once (no_room h a b c) (no_room k x y z) = (a ∙ sym x, b ∙ sym y, c ∙ sym z)
depth_once (no_room h a b c) (told k x y z) = absurd (omega arith)
depth_once (told h a b c) (no_room k x y z) = absurd (omega arith)
depth_once {out = out} (told h a b c) (told k x y z) =
    let e = says_once a x in
    (b ∙ ap (λ (d : Depth). d.number) e.0 ∙ sym y, e.1, c ∙ ap (λ (d : Depth). sets out 0 (d.number ∷ d.answer ∷ d.questions ∷ [])) e.0 ∙ sym z)
