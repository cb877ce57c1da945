-- How a text's count of lines goes from one place to the next.
use Rattle.std.proofs.Common.{◌≡◌, ap, ◌∙◌, sym, Bool, true, false, ℕ, suc, ◌+◌, ◌<◌, List, cond, length, drop}
use native.Mathlib.Numerals.{add-one}
use borrow.Author.Tests.{ne_eqb}
use lib.Dec.{eqb}
use lib.ListN.{get_or}
use lib.Seq.{drop-cons, drop-length}
use Rattle.replay.specs.Lines.{lines_of}

module _ (s : List ℕ) where
  -- at a byte it does not matter whether something of the line stands before it
  pub here : (b : Bool) (i : ℕ) → i < length s → lines_of b (drop i s) ≡ cond (eqb (get_or s i 0) 10) (suc (lines_of false (drop (i + 1) s))) (lines_of true (drop (i + 1) s))
  unfolding lines_of
  here b i h = ap (lines_of b) (drop-cons s i 0 h) ∙ ap (λ (n : ℕ). cond (eqb (get_or s i 0) 10) (suc (lines_of false (drop n s))) (lines_of true (drop n s))) (sym (add-one i))

  pub either : (i : ℕ) → i < length s → lines_of true (drop i s) ≡ lines_of false (drop i s)
  either i h = here true i h ∙ sym (here false i h)

  pub newline : (b : Bool) (i : ℕ) → i < length s → get_or s i 0 ≡ 10 → lines_of b (drop i s) ≡ suc (lines_of false (drop (i + 1) s))
  newline b i h e = here b i h ∙ ap (λ (x : ℕ). cond (eqb x 10) (suc (lines_of false (drop (i + 1) s))) (lines_of true (drop (i + 1) s))) e

  pub inside : (b : Bool) (i : ℕ) → i < length s → (get_or s i 0 ≡ 10 → ⊥) → lines_of b (drop i s) ≡ lines_of true (drop (i + 1) s)
  inside b i h n = here b i h ∙ ap (λ (t : Bool). cond t (suc (lines_of false (drop (i + 1) s))) (lines_of true (drop (i + 1) s))) (ne_eqb (get_or s i 0) 10 n)

  pub ends : (b : Bool) → lines_of b (drop (length s) s) ≡ cond b 1 0
  unfolding lines_of
  ends b = ap (lines_of b) (drop-length s)
