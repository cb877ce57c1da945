-- The laws of a list in an array of n places: one more item, while there is room and past it; and the first places of a longer array.
use mathlib.Core.Path.{◌≡◌, refl, ap}
use mathlib.Core.List.{List, [], ◌∷◌, ◌++◌, map}
use Prim.Native.Nat.{ℕ, zero, suc, ◌≤◌, ◌<◌}
use native.Mathlib.Omega.{arith}
use lib.ListN.{length, set}
use Rattle.head_record.specs.Lists.{filled}

module _ {A B : Type 0} (d : B) (f : A → B) where
  pub filled_with : (n : ℕ) (l : List A) (a : A) → length l < n → set (filled n d (map f l)) (length l) (f a) ≡ filled n d (map f (l ++ (a ∷ [])))
  unfolding filled
  filled_with zero l a h = absurd (omega arith)
  filled_with (suc n) [] a h = refl
  filled_with (suc n) (b ∷ l) a h = ap (λ (m : List B). f b ∷ m) (filled_with n l a (omega arith))

  pub filled_past : (n : ℕ) (l : List A) (a : A) → n ≤ length l → filled n d (map f l) ≡ filled n d (map f (l ++ (a ∷ [])))
  unfolding filled
  filled_past zero l a h = refl
  filled_past (suc n) [] a h = absurd (omega arith)
  filled_past (suc n) (b ∷ l) a h = ap (λ (m : List B). f b ∷ m) (filled_past n l a (omega arith))
