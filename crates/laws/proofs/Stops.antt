-- `stop` is where a run of `written` ends, and its bytes are those of `run`: for any test that is false at the end of the text.
use mathlib.Core.Path.{◌≡◌, refl, sym, ap, ◌∙◌, subst}
use mathlib.Core.Bool.{Bool, true, false}
use mathlib.Core.List.{List, [], ◌∷◌}
use Prim.Native.Nat.{ℕ, zero, suc, ◌+◌, ◌-◌, ◌≤◌, ◌<◌}
use native.Mathlib.Decide.{dec_lt}
use native.Mathlib.Omega.{arith}
use lib.ListN.{length, get_or, drop, drop_of_length-le}
use lib.Seq.{drop-cons}
use Rattle.written.specs.Bytes.{byte_at, between}
use Rattle.written.specs.TreeText.{Run, stop as stops, more, Run₁, some}
use Rattle.written.proofs.Once.{run₁-lt}
use Rattle.laws.specs.Runs.{run, stop}
use Rattle.laws.proofs.Runs.{byte_is, byte_out}

module _ (p : ℕ → Bool) (none : p 256 ≡ false) (s : List ℕ) where
  on : (i : ℕ) → p (byte_at s i) ≡ true → (i < length s) × (run p (drop i s) ≡ get_or s i 0 ∷ run p (drop (suc i) s))
  unfolding run
  on i y = go (dec_lt i (length s))
    where
      go : Dec (i < length s) → (i < length s) × (run p (drop i s) ≡ get_or s i 0 ∷ run p (drop (suc i) s))
      go (yes h) = (h, let e : p (get_or s i 0) ≡ true = ap p (sym (byte_is s i h)) ∙ y in rw (drop-cons s i 0 h, e))
      go (no h) = let z : ◌≡◌ {A = Bool} true false = sym y ∙ ap p (byte_out s i (omega arith)) ∙ none in let u : ◌≡◌ {A = ℕ} 0 1 = cc in absurd (omega arith)

  off : (i : ℕ) → p (byte_at s i) ≡ false → run p (drop i s) ≡ []
  unfolding run
  off i n = go (dec_lt i (length s))
    where
      go : Dec (i < length s) → run p (drop i s) ≡ []
      go (yes h) = let e : p (get_or s i 0) ≡ false = ap p (sym (byte_is s i h)) ∙ n in rw (drop-cons s i 0 h, e)
      go (no h) = let u : length s ≤ i = omega arith in rw (drop_of_length-le s u)

  from : (i : ℕ) → i ≤ stop p s i
  unfolding stop
  from i = omega arith

  -- a run ends where `stop` says, and its bytes are those of `run`
  pub run-stop : {i j : ℕ} → Run s p i j → stop p s i ≡ j
  unfolding stop
  run-stop (stops {i = i} n) = omega (arith, ap length (off i n))
  run-stop (more {i = i} y r) = omega (arith, ap length (on i y).1, run-stop r)

  pub run-between : {i j : ℕ} → Run s p i j → between s i j ≡ run p (drop i s)
  unfolding between
  run-between (stops {i = i} n) = let e : i - i ≡ 0 = omega arith in rw (e, off i n)
  run-between (more {i = i} {j = j} y r) =
      let h = on i y in
      let e : j - i ≡ suc (j - suc i) = omega (arith, run-stop r, from (suc i)) in
      rw (e, h.1, drop-cons s i 0 h.0) (ap (λ l. get_or s i 0 ∷ l) (run-between r))

  run_from : (n i : ℕ) → length s ≤ i + n → (j : ℕ) × Run s p i j
  run_from zero i h = (i, stops (ap p (byte_out s i (omega arith)) ∙ none))
  run_from (suc n) i h = go (p (byte_at s i)) refl (run_from n (suc i) (omega arith))
    where
      go : (b : Bool) → p (byte_at s i) ≡ b → (j : ℕ) × Run s p (suc i) j → (j : ℕ) × Run s p i j
      go true y r = (r.0, more y r.1)
      go false y r = (i, stops y)

  -- and it stands there
  pub run_is : (i : ℕ) → Run s p i (stop p s i)
  run_is i = let r = run_from (length s) i (omega arith) in subst (Run s p i) (sym (run-stop r.1)) r.1

  -- ---- the same for runs of at least one byte

  pub run₁-stop : {i j : ℕ} → Run₁ s p i j → (stop p s i ≡ j) × (i < j)
  run₁-stop (some y r) = (run-stop (more y r), run₁-lt (some y r))

  pub run₁_is : (i : ℕ) → i < stop p s i → Run₁ s p i (stop p s i)
  run₁_is i h = go (run_is i) h
    where
      go : {j : ℕ} → Run s p i j → i < j → Run₁ s p i j
      go (stops n) l = absurd (omega arith)
      go (more y r) l = some y r
