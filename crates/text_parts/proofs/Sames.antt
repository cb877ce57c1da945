-- `same` is the library's equality of byte strings.
use Prim.Native.Nat.{ℕ}
use mathlib.Core.Path.{◌≡◌, refl, ap}
use mathlib.Core.Bool.{◌&&◌}
use mathlib.Core.List.{List, [], ◌∷◌}
use lib.Dec.{eqb}
use lib.Pointwise.{pointwise}
use Rattle.written.specs.Bytes.{same}

pub pointwise_same : (a b : List ℕ) → pointwise eqb a b ≡ same a b
unfolding same
pointwise_same [] [] = refl
pointwise_same [] (y ∷ t) = refl
pointwise_same (x ∷ s) [] = refl
pointwise_same (x ∷ s) (y ∷ t) = ap (λ r. eqb x y && r) (pointwise_same s t)
