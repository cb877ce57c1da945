-- Going down from n, the last number below it of which a test is true.
use mathlib.Core.Path.{◌≡◌, sym, ap, ◌∙◌}
use mathlib.Core.Bool.{Bool, true, false, cond}
use Prim.Native.Nat.{ℕ, zero, suc, ◌-◌, ◌≤◌, ◌<◌}
use native.Mathlib.Omega.{arith}
use Rattle.std.specs.Prelude.{Some, None}
use Rattle.link_search.specs.Found.{last_below}

-- those from k on are passed over
pub record Down (p : ℕ → Bool) (n k : ℕ) : Type 0 where
  pub within : k ≤ n
  pub same : last_below p n ≡ last_below p k

module _ {p : ℕ → Bool} {n : ℕ} where
  pub down_none : {k : ℕ} → Down p n k → k ≡ 0 → None ≡ last_below p n
  unfolding last_below
  down_none g e = sym (g.same ∙ rw e)

  pub down_here : (k : ℕ) → Down p n k → 0 < k → p (k - 1) ≡ true → Some (k - 1) ≡ last_below p n
  unfolding last_below
  down_here zero g h t = absurd (omega arith)
  down_here (suc k) g h t = let z : suc k - 1 ≡ k = omega arith in sym (g.same ∙ ap (λ (b : Bool). cond b (Some k) (last_below p k)) (rw z at t) ∙ ap Some (sym z))

  pub down_on : (k : ℕ) → Down p n k → 0 < k → p (k - 1) ≡ false → Down p n (k - 1)
  unfolding last_below
  down_on zero g h t = absurd (omega arith)
  down_on (suc k) g h t = let z : suc k - 1 ≡ k = omega arith in record { within = omega (arith, g.within); same = g.same ∙ ap (λ (b : Bool). cond b (Some k) (last_below p k)) (rw z at t) ∙ ap (last_below p) (sym z) }
