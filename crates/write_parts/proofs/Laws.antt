-- What a row says where it is there and where it isn't; the bytes of an id, a reference and a line.
use mathlib.Core.Path.{◌≡◌, refl, sym, ap, ap₂, ◌∙◌}
use mathlib.Core.Bool.{Bool, true, false, cond}
use mathlib.Core.List.{List, [], ◌∷◌, ◌++◌}
use Prim.Native.Nat.{ℕ, zero, suc, ◌+◌, ◌-◌, ◌≤◌, ◌<◌}
use native.Mathlib.Omega.{arith}
use borrow.Author.Tests.{lt-ltb, le-ltb}
use lib.Dec.{ltb}
use lib.IntN.{pos, neg_ℤ}
use lib.ListN.{length}
use lib.Seq.{take-length}
use Rattle.written.specs.Bytes.{newline, dash, part}
use Rattle.written.specs.Said.{node, pdf}
use Rattle.written.specs.Writing.{figures, figures_in, spelled_number, spelled_ref, spelled_line}
use Rattle.link_order.specs.Keys.{name_at}
use Rattle.table_rows.specs.Rows.{pattern_rows, pattern_start, pattern_len, record_question, record_pdf, record_yes, record_no}
use Rattle.write_records.specs.Records.{of_record}
use Rattle.write_parts.specs.Parts.{each, pattern_of, ref_of, line_of}

-- ---- what it says

-- a whole string as a part of itself
pub whole_part : (w : List ℕ) {v : List ℕ} → w ≡ v → part w 0 (length w) ≡ v
whole_part w h = take-length w ∙ h

module _ (d P : List ℕ) (f k : ℕ) where
  pub pattern_there : ltb (f + k) (pattern_rows P) ≡ true → {a n : ℕ} → a ≡ pattern_start P (f + k) → n ≡ pattern_len P (f + k) → part d a n ≡ pattern_of d P f k
  unfolding pattern_of
  pattern_there h u v = ap₂ (part d) u v ∙ sym (ap (λ (x : Bool). cond x (part d (pattern_start P (f + k)) (pattern_len P (f + k))) []) h)

  pub pattern_missing : ltb (f + k) (pattern_rows P) ≡ false → [] ≡ pattern_of d P f k
  unfolding pattern_of
  pattern_missing h = sym (ap (λ (x : Bool). cond x (part d (pattern_start P (f + k)) (pattern_len P (f + k))) []) h)

-- ---- ids and references

pub id_zero : (k : ℕ) → k ≡ 0 → 48 ∷ [] ≡ spelled_number (neg_ℤ (pos k))
unfolding figures_in
id_zero zero h = refl
id_zero (suc k) h = absurd (omega arith)

pub id_more : (k : ℕ) → (k ≡ 0 → ⊥) → dash ∷ figures k ≡ spelled_number (neg_ℤ (pos k))
id_more zero h = absurd (h refl)
id_more (suc k) h = refl

module _ (R : List ℕ) (f n k : ℕ) where
  pub ref_line : k < n → node (neg_ℤ (pos k)) ≡ ref_of R f n k
  unfolding ref_of
  ref_line h = sym (ap (λ (x : Bool). cond x (node (neg_ℤ (pos k))) (pdf (of_record record_pdf R f k))) (lt-ltb k n h))

  pub ref_leaf : n ≤ k → pdf (of_record record_pdf R f k) ≡ ref_of R f n k
  unfolding ref_of
  ref_leaf h = sym (ap (λ (x : Bool). cond x (node (neg_ℤ (pos k))) (pdf (of_record record_pdf R f k))) (le-ltb k n h))

-- ---- a line, by its numbers

module _ (d Q R : List ℕ) (f n k : ℕ) where
  abbrev bytes_of : ℕ → ℕ → ℕ → List ℕ
  bytes_of q z y = spelled_number (neg_ℤ (pos k)) ++ (32 ∷ (name_at d Q q ++ (32 ∷ (spelled_ref (ref_of R f n z) ++ (32 ∷ (spelled_ref (ref_of R f n y) ++ (newline ∷ [])))))))

  pub line_bytes : {q z y : ℕ} → q ≡ of_record record_question R f k → z ≡ of_record record_no R f k → y ≡ of_record record_yes R f k
      → bytes_of q z y ≡ spelled_line (line_of d Q R f n k)
  unfolding spelled_line
  line_bytes {q} {z} {y} u v w = ap (λ (x : ℕ). bytes_of x z y) u ∙ ap (λ (x : ℕ). bytes_of (of_record record_question R f k) x y) v ∙ ap (bytes_of (of_record record_question R f k) (of_record record_no R f k)) w

-- ---- things by their number

module _ {A : Type 0} (g : ℕ → A) (k n : ℕ) where
  pub each_more : k < n → each g k (n - k) ≡ g k ∷ each g (k + 1) (n - (k + 1))
  unfolding each
  each_more h =
      let e : n - k ≡ suc (n - (k + 1)) = omega arith in
      let s : suc k ≡ k + 1 = omega arith in
      ap (each g k) e ∙ ap (λ (j : ℕ). g k ∷ each g j (n - (k + 1))) s

  pub each_done : n ≤ k → each g k (n - k) ≡ []
  unfolding each
  each_done h = let e : n - k ≡ 0 = omega arith in ap (each g k) e
