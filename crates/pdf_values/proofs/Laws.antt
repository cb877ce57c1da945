-- Pairs, entries and block rows stored one after the other: what is left, stored, gives the table with all of them.
use mathlib.Core.Path.{◌≡◌, refl, sym, ap, ap₂, ◌∙◌}
use mathlib.Core.Bool.{Bool, true, false, cond}
use mathlib.Core.List.{List, [], ◌∷◌, ◌++◌, append-nil}
use Prim.Native.Nat.{ℕ, zero, suc, ◌+◌, ◌-◌, ◌*◌, ◌/◌, ◌%◌, ◌≤◌, ◌<◌}
use native.Mathlib.Nat.{add-mul}
use native.Mathlib.Numerals.{add-one}
use native.Mathlib.Omega.{arith}
use borrow.Author.Tests.{eqb-true, eqb-false}
use lib.Dec.{eqb}
use lib.ListN.{length, set, length-append}
use lib.Seq.{sets, length-sets}
use Rattle.written.specs.Blocks.{total, rows_from}
use Rattle.laws.proofs.Tables.{sets-append}
use Rattle.pdf_blocks.specs.Values.{word_at, words_at, value_at, pairs_at, entry_at, values_at}
use Rattle.pdf_values.specs.Folded.{with_blocks}

-- ---- lengths

pub length_pairs : (s : List ℕ) (a b m : ℕ) → length (pairs_at s a b m) ≡ 2 * m
unfolding pairs_at
length_pairs s a b zero = refl
length_pairs s a b (suc m) = omega (arith, length_pairs s (a + 4) (b + 4) m)

abbrev pub bit : Bool → ℕ
bit true = 1
bit false = 0

pub length_entry : (s : List ℕ) (i half : ℕ) (odd : Bool) → length (entry_at s i half odd) ≡ 2 * half + bit odd
unfolding entry_at
length_entry s i half odd = length-append (pairs_at s i (i + 4 * half) half) (cond odd (value_at s (i + 8 * half) ∷ []) []) ∙ go odd
  where
    go : (b : Bool) → length (pairs_at s i (i + 4 * half) half) + length (cond b (value_at s (i + 8 * half) ∷ []) []) ≡ 2 * half + bit b
    go true = omega (arith, length_pairs s i (i + 4 * half) half)
    go false = omega (arith, length_pairs s i (i + 4 * half) half)

-- an entry of width w has w numbers
pub entry_width : (s : List ℕ) (i w : ℕ) → length (entry_at s i (w / 2) (eqb (w % 2) 1)) ≡ w
entry_width s i w = length_entry s i (w / 2) (eqb (w % 2) 1) ∙ go (eqb (w % 2) 1) refl
  where
    go : (b : Bool) → eqb (w % 2) 1 ≡ b → 2 * (w / 2) + bit b ≡ w
    go true e = omega (arith, eqb-true (w % 2) 1 e)
    go false e = omega (arith, eqb-false (w % 2) 1 e)

-- ---- pairs

module _ (s : List ℕ) (at behind pairs : ℕ) (values₀ : List ℕ) (first : ℕ) where
  pub record Pairing (values : List ℕ) (k : ℕ) : Type 0 where
    pub within : k ≤ pairs
    pub long : length values ≡ length values₀
    pub stored : sets values (first + 2 * k) (pairs_at s (at + 4 * k) (behind + 4 * k) (pairs - k)) ≡ sets values₀ first (pairs_at s at behind pairs)

  pub pair_more : (values : List ℕ) (k : ℕ) → Pairing values k → k < pairs → (m v : ℕ) → m ≡ value_at s (at + 4 * k) → v ≡ value_at s (behind + 4 * k) → (values₁ : List ℕ)
      → values₁ ≡ sets values (first + 2 * k) (m ∷ v ∷ []) → Pairing values₁ (k + 1)
  unfolding pairs_at
  pair_more values k p h m v me ve values₁ e =
      let two : List ℕ = value_at s (at + 4 * k) ∷ value_at s (behind + 4 * k) ∷ [] in
      let e₁ : values₁ ≡ sets values (first + 2 * k) two = e ∙ ap₂ (λ x y. sets values (first + 2 * k) (x ∷ y ∷ [])) me ve in
      let a : first + 2 * (k + 1) ≡ first + 2 * k + 2 = omega arith in
      let b : at + 4 * (k + 1) ≡ at + 4 * k + 4 = omega arith in
      let c : behind + 4 * (k + 1) ≡ behind + 4 * k + 4 = omega arith in
      let d : pairs - k ≡ suc (pairs - (k + 1)) = omega arith in
      record {
        within = omega arith;
        long = ap length e ∙ length-sets values (first + 2 * k) (m ∷ v ∷ []) ∙ p.long;
        stored =
            rw (a, b, c, e₁)
            (sets-append values (first + 2 * k) two (pairs_at s (at + 4 * k + 4) (behind + 4 * k + 4) (pairs - (k + 1)))
            ∙ sym (ap (λ (n : ℕ). sets values (first + 2 * k) (pairs_at s (at + 4 * k) (behind + 4 * k) n)) d) ∙ p.stored);
      }

  pub pair_done : (values : List ℕ) (k : ℕ) → Pairing values k → pairs ≤ k → values ≡ sets values₀ first (pairs_at s at behind pairs)
  unfolding pairs_at
  pair_done values k p h =
      let d : pairs - k ≡ 0 = omega arith in
      sym (ap (λ (n : ℕ). sets values (first + 2 * k) (pairs_at s (at + 4 * k) (behind + 4 * k) n)) d) ∙ p.stored

-- ---- an entry

module _ (s : List ℕ) (i half : ℕ) (values : List ℕ) (first : ℕ) {values₁ : List ℕ} (p : values₁ ≡ sets values first (pairs_at s i (i + 4 * half) half)) where
  pub entry_even : {odd : Bool} → odd ≡ false → values₁ ≡ sets values first (entry_at s i half odd)
  unfolding entry_at
  entry_even e = rw e (p ∙ ap (sets values first) (sym (append-nil (pairs_at s i (i + 4 * half) half))))

  pub entry_odd : {odd : Bool} → odd ≡ true → (v : ℕ) → v ≡ value_at s (i + 8 * half) → set values₁ (first + 2 * half) v ≡ sets values first (entry_at s i half odd)
  unfolding entry_at
  entry_odd e v q =
      let P = pairs_at s i (i + 4 * half) half in
      rw (e, q)
      (ap (λ (l : List ℕ). set l (first + 2 * half) (value_at s (i + 8 * half))) p
      ∙ ap (λ (n : ℕ). set (sets values first P) (first + n) (value_at s (i + 8 * half))) (sym (length_pairs s i (i + 4 * half) half))
      ∙ sets-append values first P (value_at s (i + 8 * half) ∷ []))

-- ---- entries

pub values_on : (s : List ℕ) (i w n : ℕ) → 0 < n → values_at s i w n ≡ entry_at s i (w / 2) (eqb (w % 2) 1) ++ values_at s (i + 4 * w) w (n - 1)
unfolding values_at
values_on s i w zero h = absurd (omega arith)
values_on s i w (suc n) h = let e : suc n - 1 ≡ n = omega arith in ap (λ (m : ℕ). entry_at s i (w / 2) (eqb (w % 2) 1) ++ values_at s (i + 4 * w) w m) (sym e)

module _ (s : List ℕ) (at w entries : ℕ) (values₀ : List ℕ) where
  pub record Storing (values : List ℕ) (left i first : ℕ) : Type 0 where
    pub long : length values ≡ length values₀
    pub room : first + length (values_at s i w left) ≤ length values₀
    pub reads : i + 4 * length (values_at s i w left) ≤ length s
    pub stored : sets values first (values_at s i w left) ≡ sets values₀ 0 (values_at s at w entries)

  pub store_none : at + 4 * length (values_at s at w entries) ≤ length s → length (values_at s at w entries) ≤ length values₀ → Storing values₀ entries at 0
  store_none h k = record { long = refl; room = omega arith; reads = h; stored = refl }

  module _ (values : List ℕ) (left i first : ℕ) (p : Storing values left i first) (h : 0 < left) where
    parts : length (values_at s i w left) ≡ w + length (values_at s (i + 4 * w) w (left - 1))
    parts =
        ap length (values_on s i w left h) ∙ length-append (entry_at s i (w / 2) (eqb (w % 2) 1)) (values_at s (i + 4 * w) w (left - 1))
        ∙ ap (λ (n : ℕ). n + length (values_at s (i + 4 * w) w (left - 1))) (entry_width s i w)

    pub entry_room : (i + 4 * length (entry_at s i (w / 2) (eqb (w % 2) 1)) ≤ length s) × (first + length (entry_at s i (w / 2) (eqb (w % 2) 1)) ≤ length values)
    entry_room = (omega (arith, entry_width s i w, parts, p.reads), omega (arith, entry_width s i w, parts, p.room, p.long))

    pub next_room : (i + 4 * w ≤ length s) × (first + w ≤ length values₀)
    next_room = (omega (arith, parts, p.reads), omega (arith, parts, p.room))

    pub store_more : (values₁ : List ℕ) → values₁ ≡ sets values first (entry_at s i (w / 2) (eqb (w % 2) 1)) → Storing values₁ (left - 1) (i + 4 * w) (first + w)
    store_more values₁ e =
        let E = entry_at s i (w / 2) (eqb (w % 2) 1) in
        let rest = values_at s (i + 4 * w) w (left - 1) in
        record {
          long = ap length e ∙ length-sets values first E ∙ p.long;
          room = omega (arith, parts, p.room);
          reads = omega (arith, parts, p.reads);
          stored =
              ap (λ (n : ℕ). sets values₁ (first + n) rest) (sym (entry_width s i w)) ∙ ap (λ (l : List ℕ). sets l (first + length E) rest) e
              ∙ sets-append values first E rest ∙ ap (sets values first) (sym (values_on s i w left h)) ∙ p.stored;
        }

  pub store_done : (values : List ℕ) (left i first : ℕ) → Storing values left i first → left ≤ 0 → values ≡ sets values₀ 0 (values_at s at w entries)
  unfolding values_at
  store_done values left i first p h =
      let z : left ≡ 0 = omega arith in
      sym (ap (λ (n : ℕ). sets values first (values_at s i w n)) z) ∙ p.stored

-- ---- rows

pub words_on : (s : List ℕ) (i n k : ℕ) → k < n → words_at s (i + 4 * k) (n - k) ≡ word_at s (i + 4 * k) ∷ words_at s (i + 4 * (k + 1)) (n - (k + 1))
unfolding words_at
words_on s i n k h =
    let d : n - k ≡ suc (n - (k + 1)) = omega arith in
    let a : i + 4 * k + 4 ≡ i + 4 * (k + 1) = omega arith in
    ap (words_at s (i + 4 * k)) d ∙ ap (λ (j : ℕ). word_at s (i + 4 * k) ∷ words_at s j (n - (k + 1))) a

module _ (s : List ℕ) (at count w : ℕ) (trees₀ : List ℕ) where
  -- row k is the next, and `first` the first value of its tree
  pub record Setting (trees : List ℕ) (k first : ℕ) : Type 0 where
    pub within : k ≤ count
    pub long : length trees ≡ length trees₀
    pub sum : first + total (words_at s (at + 4 * k) (count - k)) * w ≡ total (words_at s at count) * w
    pub stored : with_blocks trees k (rows_from w first (words_at s (at + 4 * k) (count - k))) ≡ with_blocks trees₀ 0 (rows_from w 0 (words_at s at count))

  module _ (trees : List ℕ) (k first : ℕ) (p : Setting trees k first) (h : k < count) (e : ℕ) (ee : e ≡ word_at s (at + 4 * k)) where
    row_parts : total (words_at s (at + 4 * k) (count - k)) * w ≡ e * w + total (words_at s (at + 4 * (k + 1)) (count - (k + 1))) * w
    unfolding total
    row_parts = ap (λ (l : List ℕ). total l * w) (words_on s at count k h) ∙ ap (λ (x : ℕ). (x + total (words_at s (at + 4 * (k + 1)) (count - (k + 1)))) * w) (sym ee) ∙ add-mul e (total (words_at s (at + 4 * (k + 1)) (count - (k + 1)))) w

    -- what is added stays within the whole
    pub row_room : first + e * w ≤ total (words_at s at count) * w
    row_room = omega (arith, row_parts, p.sum)

    pub set_more : (trees₁ : List ℕ) → trees₁ ≡ sets trees (6 * k + 4) (first ∷ e ∷ []) → Setting trees₁ (k + 1) (first + e * w)
    unfolding with_blocks rows_from
    set_more trees₁ q =
        let rest = words_at s (at + 4 * (k + 1)) (count - (k + 1)) in
        record {
          within = omega arith;
          long = ap length q ∙ length-sets trees (6 * k + 4) (first ∷ e ∷ []) ∙ p.long;
          sum = omega (arith, row_parts, p.sum);
          stored =
              ap₂ (λ l n. with_blocks l n (rows_from w (first + e * w) rest)) q (add-one k)
              ∙ ap (λ (x : ℕ). with_blocks (sets trees (6 * k + 4) (first ∷ x ∷ [])) (suc k) (rows_from w (first + x * w) rest)) ee
              ∙ sym (ap (λ (l : List ℕ). with_blocks trees k (rows_from w first l)) (words_on s at count k h)) ∙ p.stored;
        }

  pub set_done : (trees : List ℕ) (k first : ℕ) → Setting trees k first → count ≤ k → trees ≡ with_blocks trees₀ 0 (rows_from w 0 (words_at s at count))
  unfolding with_blocks rows_from words_at
  set_done trees k first p h =
      let d : count - k ≡ 0 = omega arith in
      sym (ap (λ (n : ℕ). with_blocks trees k (rows_from w first (words_at s (at + 4 * k) n))) d) ∙ p.stored
