-- What parts two lines, once it is known where the blanks end: where no tab stands there, no tab stood before it either, and this is the place of the next line.
--
use Prim.Native.Nat.{ℕ, zero, suc, ◌+◌, ◌≤◌, ◌<◌}
use mathlib.Core.Path.{◌≡◌, refl, sym, ap, ◌∙◌}
use mathlib.Core.Bool.{Bool, true, false, cond}
use mathlib.Core.List.{List}
use native.Mathlib.Decide.{dec_lt, ℕ_discrete}
use native.Mathlib.Omega.{arith}
use borrow.Author.Tests.{eq-eqb, ne_eqb, eqb-true}
use lib.Dec.{eqb}
use lib.ListN.{length, get_or}
use Rattle.std.specs.Prelude.{Some, None}
use Rattle.written.specs.Bytes.{newline, blank, space_or_tab, byte_at}
use Rattle.laws.specs.Runs.{stop}
use Rattle.laws.proofs.Runs.{stop_on, stop_here, stop_end, byte_is, byte_in}
use Rattle.text_spaces.specs.Spaces.{past_byte, newline_at, line_parting_at, then_at}

blank_space : {b : ℕ} → b ≡ 32 → blank b ≡ true
unfolding blank
blank_space {b} e = rw (eq-eqb b 32 e)

tab_space : {b : ℕ} → b ≡ 32 → space_or_tab b ≡ true
unfolding space_or_tab
tab_space {b} e = rw (eq-eqb b 32 e)

blank-newline : {b : ℕ} → b ≡ 10 → blank b ≡ true
unfolding blank
blank-newline e = rw e

not_blank : {b : ℕ} → b ≡ 9 → blank b ≡ false
unfolding blank
not_blank e = rw e

neither : {b : ℕ} → (b ≡ 32 → ⊥) → (b ≡ 9 → ⊥) → space_or_tab b ≡ false
unfolding space_or_tab
neither {b} n m = rw (ne_eqb b 32 n, ne_eqb b 9 m)

module _ (s : List ℕ) where
  -- spaces and tabs, then blanks: where no tab stands behind the blanks, the tabs change nothing; n is at least the bytes that are left
  no_tab : (n i : ℕ) → length s ≤ i + n → (byte_at s (stop blank s i) ≡ 9 → ⊥) → stop blank s (stop space_or_tab s i) ≡ stop blank s i
  no_tab zero i h t = ap (stop blank s) (stop_end space_or_tab s i (omega arith))
  no_tab (suc n) i h t = elim (dec_lt i (length s)) [
    | no o ↦ ap (stop blank s) (stop_end space_or_tab s i (omega arith))
    | yes l ↦ elim (ℕ_discrete (get_or s i 0) 32) [
      | yes e ↦
          let b : stop blank s i ≡ stop blank s (i + 1) = stop_on blank s i l (blank_space e) in
          let u : stop space_or_tab s i ≡ stop space_or_tab s (i + 1) = stop_on space_or_tab s i l (tab_space e) in
          ap (stop blank s) u ∙ no_tab n (i + 1) (omega arith) (λ q. t (ap (byte_at s) b ∙ q)) ∙ sym b
      | no d ↦ elim (ℕ_discrete (get_or s i 0) 9) [
        | yes f ↦ absurd (t (ap (byte_at s) (stop_here blank s i l (not_blank f)) ∙ byte_is s i l ∙ f))
        | no g ↦ ap (stop blank s) (stop_here space_or_tab s i l (neither d g))
      ]
    ]
  ]

  behind : (i k : ℕ) → byte_at s (stop space_or_tab s i) ≡ 10 → k ≡ stop space_or_tab s i + 1 → (byte_at s (stop blank s i) ≡ 9 → ⊥) → stop blank s (stop space_or_tab s k) ≡ stop blank s i
  behind i k e q t =
      let p = stop space_or_tab s i in
      let l : p < length s = byte_in s p e (omega arith) in
      let a : stop blank s p ≡ stop blank s i = no_tab (length s) i (omega arith) t in
      let b : stop blank s p ≡ stop blank s (p + 1) = stop_on blank s p l (blank-newline (sym (byte_is s p l) ∙ e)) in
      let c : stop blank s k ≡ stop blank s i = ap (stop blank s) q ∙ sym b ∙ a in
      no_tab (length s) k (omega arith) (λ f. t (ap (byte_at s) (sym c) ∙ f)) ∙ c

  -- the newline found, and where the next line stands
  pub parted : (i k r : ℕ) → r ≡ stop blank s i → (byte_at s r ≡ 9 → ⊥) → Some k ≡ newline_at s i → Some r ≡ line_parting_at s i
  unfolding newline_at past_byte line_parting_at
  parted i k r e t h = go (eqb (byte_at s (stop space_or_tab s i)) newline) refl h
    where
      go : (u : Bool) → eqb (byte_at s (stop space_or_tab s i)) newline ≡ u → Some k ≡ cond u (Some (stop space_or_tab s i + 1)) None
          → Some r ≡ then_at (λ j. stop blank s (stop space_or_tab s j)) (cond u (Some (stop space_or_tab s i + 1)) None)
      go true q g =
          ap Some (e ∙ sym (behind i (stop space_or_tab s i + 1) (eqb-true (byte_at s (stop space_or_tab s i)) newline q) refl (λ f. t (ap (byte_at s) e ∙ f))))
      go false q g = let z : ◌≡◌ {A = ℕ} 0 1 = cc in absurd (omega arith)

  pub unparted : (i : ℕ) → None ≡ newline_at s i → None ≡ line_parting_at s i
  unfolding line_parting_at
  unparted i h = ap (then_at (λ j. stop blank s (stop space_or_tab s j))) h
