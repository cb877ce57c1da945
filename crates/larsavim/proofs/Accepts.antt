-- What `larsavim_accepts` promises fixes what it returns and `out`.
use mathlib.Core.Path.{◌≡◌, sym, ◌∙◌}
use mathlib.Core.List.{List}
use Prim.Native.Nat.{ℕ}
use native.Mathlib.Omega.{arith}
use Rattle.larsavim.specs.Accepts.{AcceptTells, no_room, told}

pub accepts_once : {s : List ℕ} {t : ℕ} {R out out₁ out₂ : List ℕ} {r u : ℕ} → AcceptTells s t R out r out₁ → AcceptTells s t R out u out₂ → (r ≡ u) × (out₁ ≡ out₂)
accepts_once (no_room h a b) (no_room k x y) = (a ∙ sym x, b ∙ sym y)
accepts_once (no_room h a b) (told k x y) = absurd (omega arith)
accepts_once (told h a b) (no_room k x y) = absurd (omega arith)
accepts_once (told h a b) (told k x y) = (a ∙ sym x, b ∙ sym y)
