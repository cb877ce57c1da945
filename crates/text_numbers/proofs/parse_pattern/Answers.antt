-- `text_numbers::parse_pattern`: each way out is an arm of `patternAt`.
use mathlib.Core.Path.{◌≡◌, sym, ◌∙◌}
use mathlib.Core.List.{List}
use Prim.Native.Nat.{ℕ, ◌+◌}
use native.Mathlib.Omega.{arith}
use borrow.Author.Tests.{eq-eqb, ne_eqb}
use Rattle.std.specs.Prelude.{None}
use Rattle.written.specs.Bytes.{byte_at, in_pattern}
use Rattle.laws.specs.Runs.{stop}
use Rattle.laws.proofs.Runs.{read_in}
use Rattle.text_numbers.specs.Answers.{pattern_of, pattern_at}
use Rattle.text_numbers.proofs.parse_pattern.Goals as goal

module _ (s : List ℕ) (i : ℕ) {b e : ℕ} (first : b ≡ byte_at s i) where
  closed : {d : ℕ} → b ≡ 34 → e ≡ stop in_pattern s (i + 1) → d ≡ byte_at s e → d ≡ 34 → pattern_of (i + 1) e (e + 1) ≡ pattern_at s i
  unfolding pattern_at
  closed q r t u = rw (eq-eqb _ _ (sym first ∙ q), ← r, eq-eqb _ _ (sym t ∙ u))

  unclosed : {d : ℕ} → b ≡ 34 → e ≡ stop in_pattern s (i + 1) → d ≡ byte_at s e → (d ≡ 34 → ⊥) → None ≡ pattern_at s i
  unfolding pattern_at
  unclosed q r t u = rw (eq-eqb _ _ (sym first ∙ q), ← r, ne_eqb _ _ (λ h. u (t ∙ h)))

  bare : (b ≡ 34 → ⊥) → e ≡ stop in_pattern s i → pattern_of i e e ≡ pattern_at s i
  unfolding pattern_at
  bare q r = rw (ne_eqb _ _ (λ h. q (first ∙ h)), ← r)

pub overflow_add-at : goal.overflow_add-at
overflow_add-at c = omega (arith, read_in _ _ c.byte_at.ensures c.if-byte_at-eq34.true (omega arith))

pub overflow_add-at-then-byte_at-eq34-2 : goal.overflow_add-at-then-byte_at-eq34-2
overflow_add-at-then-byte_at-eq34-2 c = omega (arith, read_in _ _ c.byte_at.ensures c.if-byte_at-eq34.true (omega arith))

pub overflow_add-end : goal.overflow_add-end
overflow_add-end c = omega (arith, read_in _ _ c.byte_at-then-byte_at-eq34.ensures c.if-byte_at-eq34-2.true (omega arith))

pub returns-then-byte_at-eq34-2 : goal.returns-then-byte_at-eq34-2
returns-then-byte_at-eq34-2 c = c.some_pattern.ensures ∙ closed _ _ c.byte_at.ensures c.if-byte_at-eq34.true c.pattern_end-end.ensures c.byte_at-then-byte_at-eq34.ensures c.if-byte_at-eq34-2.true

pub returns-then-byte_at-eq34 : goal.returns-then-byte_at-eq34
returns-then-byte_at-eq34 c = unclosed _ _ c.byte_at.ensures c.if-byte_at-eq34.true c.pattern_end-end.ensures c.byte_at-then-byte_at-eq34.ensures c.if-byte_at-eq34-2.false

pub returns : goal.returns
returns c = c.some_pattern-2.ensures ∙ bare _ _ c.byte_at.ensures c.if-byte_at-eq34.false c.pattern_end-end-2.ensures
