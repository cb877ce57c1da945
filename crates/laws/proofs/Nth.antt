-- Where things of a list stand, in `written`'s words, and rows one behind the other.
use mathlib.Core.Path.{◌≡◌, refl, sym, ap, ◌∙◌}
use mathlib.Core.List.{List, [], ◌∷◌, ◌++◌, flatten, append_assoc}
use Prim.Native.Nat.{ℕ, zero, suc, ◌<◌}
use native.Mathlib.Omega.{arith}
use lib.ListN.{length}
use Rattle.written.specs.Linking.{Nth, here, there}

module _ {A : Type 0} where
  pub nth_inside : {xs : List A} {k : ℕ} {x : A} → Nth xs k x → k < length xs
  nth_inside here = omega arith
  nth_inside (there s) = omega (arith, nth_inside s)

  pub nth_of : (xs : List A) (k : ℕ) → k < length xs → (x : A) × Nth xs k x
  nth_of [] k h = absurd (omega arith)
  nth_of (x ∷ xs) zero h = (x, here)
  nth_of (x ∷ xs) (suc k) h = let r = nth_of xs k (omega arith) in (r.0, there r.1)

  pub flatten-append : (a b : List (List A)) → flatten (a ++ b) ≡ flatten a ++ flatten b
  unfolding flatten
  flatten-append [] b = refl
  flatten-append (r ∷ a) b = ap (λ (l : List A). r ++ l) (flatten-append a b) ∙ sym (append_assoc r (flatten a) (flatten b))
