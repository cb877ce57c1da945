-- The loop over the items that count, from the last one on, where the items are read one by one.
use mathlib.Core.Path.{◌≡◌, ap, ◌∙◌}
use mathlib.Core.Bool.{Bool, true, false}
use Prim.Native.Nat.{ℕ, ◌-◌, ◌<◌}
use native.Mathlib.Omega.{arith}
use lib.ListN.{get_or}
use Rattle.head_record_fits.specs.Fits.{counted}
use Rattle.head_record_fits.proofs.Each.{Left, left_off, left_on}
use Rattle.head_words.specs.Words.{run}
use Rattle.head_words.proofs.Items.{get_or-run}

module _ {A : Type 0} (f : ℕ → A) {m : ℕ} {p : A → Bool} {count k : ℕ} (g : Left m p count (run f 0 m) k) (d : A) (e : p d ≡ true) (h : 0 < k) where
  item : p (get_or (run f 0 m) (k - 1) d) ≡ p (f (k - 1))
  item = ap p (get_or-run f d 0 m (k - 1) (omega (arith, g.within)) ∙ ap f (omega arith))

  pub run_off : p (f (k - 1)) ≡ false → counted m p count (run f 0 m) ≡ false
  run_off q = left_off g d e h (item ∙ q)

  pub run_on : p (f (k - 1)) ≡ true → Left m p count (run f 0 m) (k - 1)
  run_on q = left_on g d e h (item ∙ q)
