-- The counts of a block and whether it is used up.
use mathlib.Core.Path.{◌≡◌, refl, sym, ap, ◌∙◌}
use mathlib.Core.Bool.{Bool, true, false, cond, ◌&&◌}
use mathlib.Core.List.{List}
use Prim.Native.Nat.{ℕ, zero, suc, ◌+◌, ◌-◌, ◌*◌, ◌/◌, ◌%◌, ◌≤◌, ◌<◌}
use native.Mathlib.Nat.{div-add-mod', mul-zero, mul-mod_left, mul-div_cancel, le-mul_of_pos_right, div-le_self}
use native.Mathlib.Omega.{arith}
use borrow.Author.Tests.{le-leb, lt-leb, eq-eqb, ne_eqb, eqb-true, leb-true, leb-false}
use lib.Dec.{leb, eqb}
use lib.ListN.{length}
use Rattle.std.specs.Prelude.{Some, None}
use Rattle.written.specs.Blocks.{total}
use Rattle.pdf_blocks.specs.Values.{word_at, words_at, block_at}

-- the words from word k of n on, the first of which stands at i
module _ (s : List ℕ) (i : ℕ) where
  total_first : (n : ℕ) → 0 < n → total (words_at s i n) ≡ word_at s i + total (words_at s (i + 4) (n - 1))
  unfolding words_at total
  total_first zero h = absurd (omega arith)
  total_first (suc n) h = let e : suc n - 1 ≡ n = omega arith in ap (λ (m : ℕ). word_at s i + total (words_at s (i + 4) m)) (sym e)

  pub total_whole : (n : ℕ) → total (words_at s (i + 4 * 0) (n - 0)) ≡ total (words_at s i n)
  total_whole n = let e : i + 4 * 0 ≡ i = omega arith in let f : n - 0 ≡ n = omega arith in rw (e, f)

pub total_on : (s : List ℕ) (i k n : ℕ) → k < n → total (words_at s (i + 4 * k) (n - k)) ≡ word_at s (i + 4 * k) + total (words_at s (i + 4 * (k + 1)) (n - (k + 1)))
total_on s i k n h =
    let e : i + 4 * (k + 1) ≡ i + 4 * k + 4 = omega arith in
    let f : n - (k + 1) ≡ n - k - 1 = omega arith in
    rw (e, f) (total_first s (i + 4 * k) (n - k) (omega arith))

pub total_none : (s : List ℕ) (i n : ℕ) → n ≤ 0 → total (words_at s i n) ≡ 0
unfolding words_at total
total_none s i n h = let e : n ≡ 0 = omega arith in ap (λ (m : ℕ). total (words_at s i m)) e

pub cap_over : {t most : ℕ} → most < t → most + 1 ≡ cond (leb t most) t (most + 1)
cap_over {t} {most} h = rw (lt-leb t most h)

pub cap_in : {t most : ℕ} → t ≤ most → t ≡ cond (leb t most) t (most + 1)
cap_in {t} {most} h = rw (le-leb t most h)

-- ---- whether a block is used up

module _ (t w : ℕ) (s : List ℕ) (i : ℕ) where
  abbrev sum : ℕ
  sum = total (words_at s i t)

  pub block_short : length s - i < 4 * t → None ≡ block_at t w s i
  unfolding block_at
  block_short h = rw (lt-leb (4 * t) (length s - i) h)

  pub block_other : (length s - i ≡ 4 * (t + sum * w) → ⊥) → None ≡ block_at t w s i
  unfolding block_at
  block_other d = go (leb (4 * t) (length s - i)) (ne_eqb (length s - i) (4 * (t + sum * w)) d)
    where
      go : (b : Bool) {c : Bool} → c ≡ false → None ≡ cond (b && (c && cond (eqb w 0) (eqb sum 0) true)) (Some sum) None
      go true e = rw e
      go false e = refl

  pub block_flat : w ≡ 0 → (sum ≡ 0 → ⊥) → None ≡ block_at t w s i
  unfolding block_at
  block_flat z d = go (leb (4 * t) (length s - i)) (eqb (length s - i) (4 * (t + sum * w)))
    where
      go : (b c : Bool) → None ≡ cond (b && (c && cond (eqb w 0) (eqb sum 0) true)) (Some sum) None
      go true true = rw (eq-eqb w 0 z, ne_eqb sum 0 d)
      go true false = refl
      go false c = refl

  pub block_fits : 4 * t ≤ length s - i → length s - i ≡ 4 * (t + sum * w) → (w ≡ 0 → sum ≡ 0) → Some sum ≡ block_at t w s i
  unfolding block_at
  block_fits h e f = rw (le-leb (4 * t) (length s - i) h, eq-eqb (length s - i) (4 * (t + sum * w)) e) (go (eqb w 0) refl)
    where
      go : (b : Bool) → eqb w 0 ≡ b → Some sum ≡ cond (cond b (eqb sum 0) true) (Some sum) None
      go true q = rw (eq-eqb sum 0 (f (eqb-true w 0 q)))
      go false q = refl

-- ---- by the words that are left behind the counts

module _ (t w : ℕ) (s : List ℕ) (i W : ℕ) (whole : length s - i ≡ 4 * t + 4 * W) {E : ℕ} (capped : E ≡ cond (leb (total (words_at s i t)) W) (total (words_at s i t)) (W + 1)) where
  abbrev all : ℕ
  all = total (words_at s i t)

  -- what was counted is the sum, or the sum is above what is left
  pub data Counted : Type 0 where
    exact : E ≡ all → all ≤ W → Counted
    over : E ≡ W + 1 → W < all → Counted

  counted : Counted
  counted = go (leb all W) refl
    where
      go : (b : Bool) → leb all W ≡ b → Counted
      go true q = exact (capped ∙ ap (λ (x : Bool). cond x all (W + 1)) q) (leb-true all W q)
      go false q = over (capped ∙ ap (λ (x : Bool). cond x all (W + 1)) q) (leb-false all W q)

  -- used up means: as many words as the entries have numbers
  used : length s - i ≡ 4 * (t + all * w) → W ≡ all * w
  used e = omega arith

  pub flat-fits : w ≡ 0 → E ≡ 0 → W ≡ 0 → Some E ≡ block_at t w s i
  flat-fits z e u = go counted
    where
      go : Counted → Some E ≡ block_at t w s i
      go (exact p q) =
          let a : all ≡ 0 = omega arith in
          let m : all * w ≡ 0 = ap (λ (x : ℕ). all * x) z ∙ mul-zero all in
          ap Some p ∙ block_fits t w s i (omega arith) (omega arith) (λ x. a)
      go (over p q) = absurd (omega arith)

  pub flat_left : w ≡ 0 → (W ≡ 0 → ⊥) → None ≡ block_at t w s i
  flat_left z d = block_other t w s i (λ e. let m : all * w ≡ 0 = ap (λ (x : ℕ). all * x) z ∙ mul-zero all in d (used e ∙ m))

  pub flat-counts : w ≡ 0 → (E ≡ 0 → ⊥) → None ≡ block_at t w s i
  flat-counts z d = go counted
    where
      go : Counted → None ≡ block_at t w s i
      go (exact p q) = block_flat t w s i z (λ e. d (p ∙ e))
      go (over p q) = block_flat t w s i z (λ e. omega arith)

  pub not_whole : (W % w ≡ 0 → ⊥) → None ≡ block_at t w s i
  not_whole d = block_other t w s i (λ e. d (ap (λ (x : ℕ). x % w) (used e) ∙ mul-mod_left all w))

  pub not_many : (w ≡ 0 → ⊥) → (W / w ≡ E → ⊥) → None ≡ block_at t w s i
  not_many z d = block_other t w s i (λ e. go (used e) counted)
    where
      pos : 0 < w
      pos = omega (arith, z)

      go : W ≡ all * w → Counted → ⊥
      go u (exact p q) = d (ap (λ (x : ℕ). x / w) u ∙ mul-div_cancel all pos ∙ sym p)
      go u (over p q) = omega (arith, le-mul_of_pos_right {m = w} all pos)

  pub just_fits : (w ≡ 0 → ⊥) → W % w ≡ 0 → W / w ≡ E → Some E ≡ block_at t w s i
  just_fits z r d = go counted
    where
      pos : 0 < w
      pos = omega (arith, z)

      go : Counted → Some E ≡ block_at t w s i
      go (exact p q) =
          let u : W / w * w + W % w ≡ W = div-add-mod' W w in
          let v : W / w * w ≡ all * w = ap (λ (x : ℕ). x * w) (d ∙ p) in
          ap Some p ∙ block_fits t w s i (omega arith) (omega arith) (λ x. absurd (z x))
      go (over p q) = absurd (omega (arith, div-le_self W w))
