-- The laws of `scan`: what one step of the code does to it.
use mathlib.Core.Path.{◌≡◌, refl, sym, ◌∙◌, subst}
use mathlib.Core.Bool.{Bool, true, false, cond, ◌&&◌}
use mathlib.Core.List.{List, [], ◌∷◌}
use Prim.Native.Nat.{ℕ, zero, suc, ◌+◌, ◌≤◌, ◌<◌, zero-le, suc-le-suc}
use native.Mathlib.Nat.{not-suc-le-zero, le_of_suc-le-suc, add-zero}
use native.Mathlib.Omega.{arith}
use lib.ListN.{length, drop, get_or, length-drop}
use lib.Seq.{drop-cons, drop-drop}
use Rattle.std.specs.Prelude.{Err}
use Rattle.written.specs.Rfc3629.{Range, table}
use Rattle.text_utf8.specs.Widths.{starts, width, holds}
use Rattle.text_utf8.specs.Check.{scan}

-- a sequence that s starts with is no longer than s
and_right : (a b : Bool) → (a && b) ≡ true → b ≡ true
and_right true b e = e
and_right false b e = let z : ◌≡◌ {A = ℕ} 0 1 = cc in let no : ⊥ = omega arith in absurd no

pub starts-le : (r : List Range) (s : List ℕ) → starts r s ≡ true → length r ≤ length s
unfolding starts
starts-le [] s e = zero-le
starts-le (r ∷ rs) [] e = let z : ◌≡◌ {A = ℕ} 0 1 = cc in omega arith
starts-le (r ∷ rs) (b ∷ s) e = suc-le-suc (starts-le rs s (and_right (holds r b) (starts rs s) e))

pub width-le : (rows : List (List Range)) (s : List ℕ) → width rows s ≤ length s
unfolding width
width-le [] s = zero-le
width-le (r ∷ rows) s = go (starts r s) (λ e. starts-le r s e) (width-le rows s)
  where
    go : (x : Bool) → (x ≡ true → length r ≤ length s) → width rows s ≤ length s → cond x (length r) (width rows s) ≤ length s
    go true h k = h refl
    go false h k = k

-- the bytes of a character are passed over
pub skip : (k i : ℕ) (s : List ℕ) → k ≤ length s → scan k i s ≡ scan 0 (i + k) (drop k s)
unfolding scan
skip zero i s h = rw add-zero refl
skip (suc k) i [] h = absurd (not-suc-le-zero h)
skip (suc k) i (b ∷ s) h =
    let e : i + 1 + k ≡ i + suc k = omega arith in
    rw (← e) (skip k (i + 1) s (le_of_suc-le-suc h))

pub on : (i b k : ℕ) (s : List ℕ) → width table (b ∷ s) ≡ suc k → scan 0 i (b ∷ s) ≡ scan k (i + 1) s
unfolding scan
on i b k s e = rw (e, scan)

pub off : (i b : ℕ) (s : List ℕ) → width table (b ∷ s) ≡ 0 → scan 0 i (b ∷ s) ≡ Err i
unfolding scan
off i b s e = rw (e, scan)

module _ (s : List ℕ) (i : ℕ) (h : i < length s) where
  pub bad : width table (drop i s) ≡ 0 → scan 0 i (drop i s) ≡ Err i
  bad e = rw (drop-cons s i 0 h) (off i (get_or s i 0) (drop (suc i) s) (rw (drop-cons s i 0 h) at e))

  pub next : (w : ℕ) → w ≡ width table (drop i s) → (w ≡ 0 → ⊥) → scan 0 i (drop i s) ≡ scan 0 (i + w) (drop (i + w) s)
  next zero e n = absurd (n refl)
  next (suc k) e n =
      let le : suc k ≤ length (drop i s) = subst (λ (x : ℕ). x ≤ length (drop i s)) (sym e) (width-le table (drop i s)) in
      let room : k ≤ length (drop (suc i) s) = le_of_suc-le-suc (rw (drop-cons s i 0 h) at le) in
      let here : i + 1 + k ≡ i + suc k = omega arith in
      let there : suc i + k ≡ i + suc k = omega arith in
      rw (drop-cons s i 0 h)
      (on i (get_or s i 0) k (drop (suc i) s) (sym (rw (drop-cons s i 0 h) at e)) ∙ skip k (i + 1) (drop (suc i) s) room
      ∙ rw (drop-drop k (suc i) s, here, there))

pub ends : (s : List ℕ) (i w : ℕ) → i ≤ length s → w ≡ width table (drop i s) → i + w ≤ length s
ends s i w h e = omega (arith, width-le table (drop i s), length-drop i s)
