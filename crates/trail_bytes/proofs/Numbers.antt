-- The sum of one byte more; numbers stored one behind the other; numbers that stand in bytes.
use Rattle.std.proofs.Common.{◌≡◌, ℕ, suc, ◌+◌, ◌*◌, ◌%◌, ◌^◌, ◌<◌, Bool, true, false, ◌&&◌, eqb, List, [], ◌∷◌, ◌++◌, length, get_or, take, sym, refl, ap, ◌∙◌, ap₂, arith, take-suc, eq-eqb, ne_eqb, eqb-true}
use lib.Seq.{sets}
use Rattle.written.specs.Blocks.{little_endian, total}
use Rattle.written_trailer.proofs.Trailing.{total-append}
use Rattle.laws.proofs.Tables.{sets-append}
use Rattle.pdf_blocks.specs.Values.{word_at, words_at}
use Rattle.trail_bytes.specs.Numbers.{same_words}

-- ---- the sum

module _ (start : ℕ) (s : List ℕ) where
  pub sum_none : start < 2 ^ 32 → start ≡ (start + total (take 0 s)) % 2 ^ 32
  unfolding total
  sum_none h = omega arith

  pub sum_more : {x y i : ℕ} → x ≡ (start + total (take i s)) % 2 ^ 32 → y ≡ (x + get_or s i 0) % 2 ^ 32 → i < length s → y ≡ (start + total (take (i + 1) s)) % 2 ^ 32
  unfolding total
  sum_more {x} {y} {i} p q h =
      let z : i + 1 ≡ suc i = omega arith in
      let e : total (take (i + 1) s) ≡ total (take i s) + (get_or s i 0 + 0) = ap (λ (j : ℕ). total (take j s)) z ∙ ap total (take-suc s i 0 h) ∙ total-append (take i s) (get_or s i 0 ∷ []) in
      go (total (take i s)) (get_or s i 0) p q e
    where
      go : {t : ℕ} (a b : ℕ) → x ≡ (start + a) % 2 ^ 32 → y ≡ (x + b) % 2 ^ 32 → t ≡ a + (b + 0) → y ≡ (start + t) % 2 ^ 32
      go a b p q e = omega arith

-- ---- stored

pub three_stored : (t : List ℕ) (k a b c : ℕ) → sets (sets (sets t k (little_endian (a ∷ []))) (k + 4) (little_endian (b ∷ []))) (k + 8) (little_endian (c ∷ [])) ≡ sets t k (little_endian (a ∷ b ∷ c ∷ []))
unfolding little_endian
three_stored t k a b c =
    let e : k + 8 ≡ k + length (little_endian (a ∷ b ∷ [])) = refl in
    ap (λ (l : List ℕ). sets l (k + 8) (little_endian (c ∷ []))) (sets-append t k (little_endian (a ∷ [])) (little_endian (b ∷ [])))
    ∙ sets-append t k (little_endian (a ∷ b ∷ [])) (little_endian (c ∷ []))

-- ---- read

module _ (s : List ℕ) where
  pub same_append : (i : ℕ) (a b : List ℕ) → same_words s i (a ++ b) ≡ same_words s i a && same_words s (i + 4 * length a) b
  unfolding same_words
  same_append i [] b = let e : i + 4 * 0 ≡ i = omega arith in ap (λ (j : ℕ). same_words s j b) (sym e)
  same_append i (n ∷ a) b =
      let e : i + 4 + 4 * length a ≡ i + 4 * suc (length a) = omega arith in
      ap (λ (c : Bool). eqb (word_at s i) n && c) (same_append (i + 4) a b ∙ ap (λ (j : ℕ). same_words s (i + 4) a && same_words s j b) e)
      ∙ go (eqb (word_at s i) n) (same_words s (i + 4) a) (same_words s (i + 4 * suc (length a)) b)
    where
      go : (x y z : Bool) → x && (y && z) ≡ (x && y) && z
      go true y z = refl
      go false y z = refl

  -- the numbers that stand there are these, both ways
  pub same_are : (i : ℕ) (l : List ℕ) → same_words s i l ≡ true → words_at s i (length l) ≡ l
  unfolding same_words words_at
  same_are i [] h = refl
  same_are i (n ∷ l) h = go (eqb (word_at s i) n) refl h (λ q. same_are (i + 4) l q)
    where
      go : (b : Bool) → eqb (word_at s i) n ≡ b → b && same_words s (i + 4) l ≡ true → (same_words s (i + 4) l ≡ true → words_at s (i + 4) (length l) ≡ l) → word_at s i ∷ words_at s (i + 4) (length l) ≡ n ∷ l
      go true e h f = ap₂ (λ (x : ℕ) (y : List ℕ). x ∷ y) (eqb-true (word_at s i) n e) (f h)
      go false e h f = let u : ◌≡◌ {A = ℕ} 0 1 = cc in absurd (omega arith)

  pub are_same : (i : ℕ) (l : List ℕ) → words_at s i (length l) ≡ l → same_words s i l ≡ true
  unfolding same_words words_at
  are_same i [] h = refl
  are_same i (n ∷ l) h =
      let x : word_at s i ≡ n = cc in
      let y : words_at s (i + 4) (length l) ≡ l = cc in
      ap₂ (λ (b c : Bool). b && c) (eq-eqb (word_at s i) n x) (are_same (i + 4) l y)

  module _ (k a b c : ℕ) where
    pub first_other : {x : ℕ} → x ≡ word_at s k → (x ≡ a → ⊥) → false ≡ same_words s k (a ∷ b ∷ c ∷ [])
    unfolding same_words
    first_other {x} e n = rw (ne_eqb (word_at s k) a (λ q. n (e ∙ q)))

    pub second_other : {x y : ℕ} → x ≡ word_at s k → x ≡ a → y ≡ word_at s (k + 4) → (y ≡ b → ⊥) → false ≡ same_words s k (a ∷ b ∷ c ∷ [])
    unfolding same_words
    second_other e q f n = rw (eq-eqb (word_at s k) a (sym e ∙ q), ne_eqb (word_at s (k + 4)) b (λ q. n (f ∙ q)))

    pub third_as : {x y z : ℕ} → x ≡ word_at s k → x ≡ a → y ≡ word_at s (k + 4) → y ≡ b → z ≡ word_at s (k + 8) → eqb z c ≡ same_words s k (a ∷ b ∷ c ∷ [])
    unfolding same_words
    third_as {z = z} e q f r g =
        let j : k + 4 + 4 ≡ k + 8 = omega arith in
        sym (ap₂ (λ (x y : Bool). x && (y && (eqb (word_at s (k + 4 + 4)) c && true))) (eq-eqb (word_at s k) a (sym e ∙ q)) (eq-eqb (word_at s (k + 4)) b (sym f ∙ r))
        ∙ last (eqb (word_at s (k + 4 + 4)) c) ∙ ap (λ (i : ℕ). eqb (word_at s i) c) j ∙ ap (λ (i : ℕ). eqb i c) (sym g))
      where
        last : (x : Bool) → x && true ≡ x
        last true = refl
        last false = refl
