-- The laws of `each` and `counted`, gone through from the last item that counts. Where d stands for what an array lacks, p is true of d.
use mathlib.Core.Path.{◌≡◌, sym, ap, ◌∙◌}
use mathlib.Core.Bool.{Bool, true, false, ◌&&◌, and-true, and-false, and_assoc}
use mathlib.Core.List.{List, [], ◌∷◌}
use Prim.Native.Nat.{ℕ, zero, suc, ◌-◌, ◌≤◌, ◌<◌}
use native.Mathlib.Omega.{arith}
use borrow.Author.Tests.{le-leb, lt-leb, leb-true}
use lib.Dec.{leb}
use lib.ListN.{get_or}
use Rattle.written.proofs.Tests.{both}
use Rattle.head_record_fits.specs.Fits.{each, counted}

module _ {A : Type 0} (p : A → Bool) (d : A) (e : p d ≡ true) where
  each_suc : (k : ℕ) (l : List A) → each p (suc k) l ≡ (each p k l && p (get_or l k d))
  unfolding each
  each_suc zero [] = sym e
  each_suc zero (x ∷ l) = and-true (p x)
  each_suc (suc k) [] = sym e
  each_suc (suc k) (x ∷ l) = ap (λ (b : Bool). p x && b) (each_suc k l) ∙ sym (and_assoc (p x) (each p k l) (p (get_or l k d)))

  each_off : (k : ℕ) (l : List A) → 0 < k → p (get_or l (k - 1) d) ≡ false → each p k l ≡ false
  each_off zero l h f = absurd (omega arith)
  each_off (suc k) l h f = let z : suc k - 1 ≡ k = omega arith in each_suc k l ∙ ap (λ (b : Bool). each p k l && b) (rw z at f) ∙ and-false (each p k l)

  each_on : (k : ℕ) (l : List A) → 0 < k → p (get_or l (k - 1) d) ≡ true → each p k l ≡ each p (k - 1) l
  each_on zero l h f = absurd (omega arith)
  each_on (suc k) l h f = let z : suc k - 1 ≡ k = omega arith in each_suc k l ∙ ap (λ (b : Bool). each p k l && b) (rw z at f) ∙ and-true (each p k l) ∙ rw z

-- k items are left of those that count, and the answer is theirs
pub record Left {A : Type 0} (m : ℕ) (p : A → Bool) (count : ℕ) (l : List A) (k : ℕ) : Type 0 where
  pub within : k ≤ m
  pub same : counted m p count l ≡ each p k l

module _ {A : Type 0} (m : ℕ) (p : A → Bool) (k : ℕ) (l : List A) where
  pub counted_over : m < k → counted m p k l ≡ false
  unfolding counted
  counted_over h = rw (lt-leb k m h)

  pub left_all : k ≤ m → Left m p k l k
  unfolding counted
  left_all h = record { within = h; same = rw (le-leb k m h) }

  pub counted_limit : counted m p k l ≡ true → k ≤ m
  unfolding counted
  counted_limit e = leb-true k m (both (leb k m) (each p k l) e).0

module _ {A : Type 0} {m : ℕ} {p : A → Bool} {count k : ℕ} {l : List A} (g : Left m p count l k) where
  pub left_none : k ≡ 0 → counted m p count l ≡ true
  unfolding each
  left_none e = g.same ∙ rw e

  module _ (d : A) (e : p d ≡ true) (h : 0 < k) where
    pub left_off : p (get_or l (k - 1) d) ≡ false → counted m p count l ≡ false
    left_off f = g.same ∙ each_off p d e k l h f

    pub left_on : p (get_or l (k - 1) d) ≡ true → Left m p count l (k - 1)
    left_on f = record { within = omega (arith, g.within); same = g.same ∙ each_on p d e k l h f }
