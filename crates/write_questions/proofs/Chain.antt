-- Questions whose patterns follow one another: one question, and the loop.
use mathlib.Core.Path.{◌≡◌, refl, sym, ap, ap₂, ◌∙◌}
use mathlib.Core.Bool.{Bool, true, false, ◌&&◌}
use mathlib.Core.List.{List}
use Prim.Native.Nat.{ℕ, suc, ◌+◌, ◌-◌, ◌≤◌, ◌<◌}
use native.Mathlib.Decide.{dec_le}
use native.Mathlib.Omega.{arith}
use borrow.Author.Tests.{lt-ltb, le-ltb, le-leb, lt-leb, leb-true, eq-eqb, ne_eqb}
use lib.Dec.{ltb, leb, eqb}
use Rattle.laws.proofs.Every.{second_of, not_first, then_second}
use Rattle.table_rows.specs.Rows.{question_len, question_first, question_patterns, pattern_rows}
use Rattle.write_questions.specs.Tests.{next_in, chained}

-- ---- one question: each way through

-- what is left of m behind k
pub left_of : (k n m : ℕ) → k ≤ m → leb n (m - k) ≡ leb (k + n) m
left_of k n m h = go (dec_le n (m - k))
  where
    go : Dec (n ≤ m - k) → leb n (m - k) ≡ leb (k + n) m
    go (yes u) = le-leb n (m - k) u ∙ sym (le-leb (k + n) m (omega arith))
    go (no u) = lt-leb n (m - k) (omega arith) ∙ sym (lt-leb (k + n) m (omega arith))

module _ (Q P : List ℕ) (k q : ℕ) where
  pub next_unnamed : question_len Q q ≡ 0 → false ≡ next_in Q P k q
  unfolding next_in
  next_unnamed h = not_first _ (le-ltb 0 (question_len Q q) (omega arith))

  module _ (a : question_len Q q ≡ 0 → ⊥) where
    named : ltb 0 (question_len Q q) ≡ true
    named = lt-ltb 0 (question_len Q q) (omega (arith, a))

    pub next_none : question_patterns Q q ≡ 0 → false ≡ next_in Q P k q
    unfolding next_in
    next_none h = then_second named (not_first _ (le-ltb 0 (question_patterns Q q) (omega arith)))

    module _ (b : question_patterns Q q ≡ 0 → ⊥) where
      some : ltb 0 (question_patterns Q q) ≡ true
      some = lt-ltb 0 (question_patterns Q q) (omega (arith, b))

      pub next_apart : (question_first Q q ≡ k → ⊥) → false ≡ next_in Q P k q
      unfolding next_in
      next_apart h = then_second named (then_second some (not_first _ (ne_eqb (question_first Q q) k h)))

      pub next_left : question_first Q q ≡ k → {x : Bool} → x ≡ leb (k + question_patterns Q q) (pattern_rows P) → x ≡ next_in Q P k q
      unfolding next_in
      next_left h u = then_second named (then_second some (then_second (eq-eqb (question_first Q q) k h) u))

  -- the patterns so far, and those of q, are in the table
  pub next_room : next_in Q P k q ≡ true → k + question_patterns Q q ≤ pattern_rows P
  unfolding next_in
  next_room e =
      leb-true _ _ (second_of (eqb (question_first Q q) k) _ (second_of (ltb 0 (question_patterns Q q)) _ (second_of (ltb 0 (question_len Q q)) _ e)))

-- ---- the loop

module _ (Q P : List ℕ) where
  pub record Following (n q k : ℕ) : Type 0 where
    pub within : q ≤ n
    pub room : k ≤ pattern_rows P
    pub rest : chained Q P k q (n - q) ≡ chained Q P 0 0 n

  pub following_none : (n : ℕ) → Following n 0 0
  following_none n = let e : n - 0 ≡ n = omega arith in record { within = omega arith; room = omega arith; rest = ap (chained Q P 0 0) e }

  module _ (n q k : ℕ) (f : Following n q k) where
    step : q < n → (next_in Q P k q && chained Q P (k + question_patterns Q q) (suc q) (n - (q + 1))) ≡ chained Q P 0 0 n
    unfolding chained
    step h = let e : n - q ≡ suc (n - (q + 1)) = omega arith in sym (ap (chained Q P k q) e) ∙ f.rest

    pub following_off : q < n → next_in Q P k q ≡ false → false ≡ chained Q P 0 0 n
    following_off h e = not_first _ e ∙ step h

    pub following_on : q < n → next_in Q P k q ≡ true → {m : ℕ} → m ≡ question_patterns Q q → Following n (q + 1) (k + m)
    following_on h e {m} u =
        let j : k + m ≡ k + question_patterns Q q = omega arith in
        let s : q + 1 ≡ suc q = omega arith in
        record {
          within = omega arith;
          room = omega (arith, next_room Q P k q e);
          rest = ap₂ (λ (a b : ℕ). chained Q P a b (n - (q + 1))) j s ∙ then_second e refl ∙ step h;
        }

    pub following_end : n ≤ q → {x : ℕ} → x ≡ pattern_rows P → eqb k x ≡ chained Q P 0 0 n
    unfolding chained
    following_end h u = let e : n - q ≡ 0 = omega arith in ap (eqb k) u ∙ sym (ap (chained Q P k q) e) ∙ f.rest
