-- Rows one after another: a row of the model, or of another.
use mathlib.Core.Path.{◌≡◌, refl, sym, ap, ap₂, ◌∙◌}
use mathlib.Core.Bool.{Bool, cond}
use mathlib.Core.Logic.{◌⊎◌, inl, inr}
use mathlib.Core.List.{List, [], ◌∷◌}
use Prim.Native.Nat.{ℕ, zero, suc, ◌+◌, ◌-◌, ◌*◌, ◌≤◌, ◌<◌}
use native.Mathlib.Omega.{arith}
use borrow.Author.Tests.{eq-eqb, ne_eqb, lt-ltb, le-ltb}
use lib.ListN.{length}
use Rattle.std.specs.declared.option.Option.{Option}
use Rattle.pdf_blocks.specs.Values.{word_at}
use Rattle.trail_find.specs.Rows.{rows_from, rows_to, trail_at, offsets_at, nth_of}
use Rattle.error.specs.declared.Refusal.TheVariants as refusal
use Rattle.std.specs.Prelude.{Err, Some, None}

-- ---- the last 12 bytes

module _ (s : List ℕ) (n : ℕ) where
  pub trail_short : n < 12 → Err refusal.NoTrailer ≡ trail_at s n
  unfolding trail_at
  trail_short h = rw (lt-ltb n 12 h)

  module _ (h : 12 ≤ n) {e c b : ℕ} (d : e ≡ length s - 12) (p : c ≡ word_at s e) (q : b ≡ word_at s (e + 4)) where
    long : trail_at s n ≡ rows_to e c b
    unfolding trail_at
    long =
        ap (λ (x : Bool). cond x (Err refusal.NoTrailer) (rows_to (length s - 12) (word_at s (length s - 12)) (word_at s (length s - 12 + 4)))) (le-ltb n 12 h)
        ∙ ap (λ (e : ℕ). rows_to e (word_at s e) (word_at s (e + 4))) (sym d) ∙ ap₂ (λ (c b : ℕ). rows_to e c b) (sym p) (sym q)

    pub trail_rows : b + 12 * c ≡ e → rows_from b c ≡ trail_at s n
    trail_rows f = ap (λ (x : Bool). cond x (rows_from b c) (Err refusal.TrailerRows)) (sym (eq-eqb (b + 12 * c) e f)) ∙ sym long

    pub trail_elsewhere : ¬ (b + 12 * c ≡ e) → Err refusal.TrailerRows ≡ trail_at s n
    trail_elsewhere f = ap (λ (x : Bool). cond x (rows_from b c) (Err refusal.TrailerRows)) (sym (ne_eqb (b + 12 * c) e f)) ∙ sym long

-- ---- rows of a model

module _ (s : List ℕ) (m i : ℕ) where
  pub offsets_on : (n : ℕ) → 0 < n → word_at s i ≡ m → offsets_at s m i n ≡ word_at s (i + 4) ∷ offsets_at s m (i + 12) (n - 1)
  unfolding offsets_at
  offsets_on zero h e = absurd (omega arith)
  offsets_on (suc n) h e =
      let z : suc n - 1 ≡ n = omega arith in
      ap (λ (b : Bool). cond b (word_at s (i + 4) ∷ offsets_at s m (i + 12) n) (offsets_at s m (i + 12) n)) (eq-eqb (word_at s i) m e)
      ∙ ap (λ (k : ℕ). word_at s (i + 4) ∷ offsets_at s m (i + 12) k) (sym z)

  pub offsets_off : (n : ℕ) → 0 < n → ¬ (word_at s i ≡ m) → offsets_at s m i n ≡ offsets_at s m (i + 12) (n - 1)
  unfolding offsets_at
  offsets_off zero h e = absurd (omega arith)
  offsets_off (suc n) h e =
      let z : suc n - 1 ≡ n = omega arith in
      ap (λ (b : Bool). cond b (word_at s (i + 4) ∷ offsets_at s m (i + 12) n) (offsets_at s m (i + 12) n)) (ne_eqb (word_at s i) m e)
      ∙ ap (λ (k : ℕ). offsets_at s m (i + 12) k) (sym z)

  pub offsets_none : (n : ℕ) → n ≤ 0 → offsets_at s m i n ≡ []
  unfolding offsets_at
  offsets_none zero h = refl
  offsets_none (suc n) h = absurd (omega arith)

nth_first : (x : ℕ) (l : List ℕ) (k : ℕ) → k ≡ 0 → nth_of (x ∷ l) k ≡ Some x
unfolding nth_of
nth_first x l k e = ap (nth_of (x ∷ l)) e

nth_later : (x : ℕ) (l : List ℕ) (k : ℕ) → ¬ (k ≡ 0) → nth_of (x ∷ l) k ≡ nth_of l (k - 1)
unfolding nth_of
nth_later x l zero e = absurd (e refl)
nth_later x l (suc k) e = let z : suc k - 1 ≡ k = omega arith in ap (nth_of l) (sym z)

nth_none : (k : ℕ) → nth_of [] k ≡ None
unfolding nth_of
nth_none k = refl

-- the answer is unchanged: o, of k rows of the model before it
module _ (s : List ℕ) (m i n k : ℕ) {o : Option ℕ} (e : nth_of (offsets_at s m i n) k ≡ o) where
  pub found_here : 0 < n → {a b : ℕ} → a ≡ word_at s i → a ≡ m → k ≡ 0 → b ≡ word_at s (i + 4) → Some b ≡ o
  found_here h p q z r = ap Some r ∙ sym (ap (λ (l : List ℕ). nth_of l k) (offsets_on s m i n h (sym p ∙ q)) ∙ nth_first (word_at s (i + 4)) (offsets_at s m (i + 12) (n - 1)) k z) ∙ e

  -- this row is one of the model's, or it is not
  pub found_on : 0 < n → {a b : ℕ} → a ≡ word_at s i → ((a ≡ m) × ¬ (k ≡ 0) × (b ≡ k - 1)) ⊎ (¬ (a ≡ m) × (b ≡ k)) → nth_of (offsets_at s m (i + 12) (n - 1)) b ≡ o
  found_on h p (inl c) =
      ap (nth_of (offsets_at s m (i + 12) (n - 1))) c.2
      ∙ sym (ap (λ (l : List ℕ). nth_of l k) (offsets_on s m i n h (sym p ∙ c.0)) ∙ nth_later (word_at s (i + 4)) (offsets_at s m (i + 12) (n - 1)) k c.1) ∙ e
  found_on h p (inr c) =
      ap (nth_of (offsets_at s m (i + 12) (n - 1))) c.1 ∙ sym (ap (λ (l : List ℕ). nth_of l k) (offsets_off s m i n h (λ q. c.0 (p ∙ q)))) ∙ e

  pub found_none : n ≤ 0 → None ≡ o
  found_none h = sym (ap (λ (l : List ℕ). nth_of l k) (offsets_none s m i n h) ∙ nth_none k) ∙ e

module _ (s : List ℕ) (m i n k : ℕ) {t : ℕ} (e : k + length (offsets_at s m i n) ≡ t) where
  pub counted_on : 0 < n → {a b : ℕ} → a ≡ word_at s i → ((a ≡ m) × (b ≡ k + 1)) ⊎ (¬ (a ≡ m) × (b ≡ k)) → b + length (offsets_at s m (i + 12) (n - 1)) ≡ t
  counted_on h p (inl c) = omega (arith, e, c.1, ap length (offsets_on s m i n h (sym p ∙ c.0)))
  counted_on h p (inr c) = omega (arith, e, c.1, ap length (offsets_off s m i n h (λ q. c.0 (p ∙ q))))

  pub counted_none : n ≤ 0 → k ≡ t
  counted_none h = omega (arith, e, ap length (offsets_none s m i n h))
