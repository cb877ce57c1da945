-- What is met at a record: one law for each way out of `ask` and `meet`.
use mathlib.Core.Path.{◌≡◌, refl, sym, ap, ap₂, ◌∙◌}
use mathlib.Core.Bool.{Bool, true, false, cond}
use mathlib.Core.List.{List}
use Prim.Native.Nat.{ℕ, zero, suc, ◌+◌, ◌≤◌, ◌<◌}
use native.Mathlib.Omega.{arith}
use borrow.Author.Tests.{lt-ltb, le-ltb, eq-eqb, ne_eqb}
use lib.Dec.{eqb}
use lib.ListN.{length, get_or}
use Rattle.written.specs.Walks.{chosen, is_yes}
use Rattle.table_rows.specs.Rows.{record_there, records_in, record_kind, record_question, record_pdf, record_yes, record_no}
use Rattle.table_rows.proofs.Stand.{record_in}
use Rattle.walk.specs.declared.Met.{Met}
use Rattle.walk.specs.declared.Met.TheVariants.{Leaf, Line, Wrong}
use Rattle.walk.specs.Walking.{line_at, kind_at, meet_at}

is_yes_lem : (b : ℕ) → (b ≡ 0 → ⊥) → is_yes b ≡ true
is_yes_lem zero d = absurd (d refl)
is_yes_lem (suc b) d = refl

-- ---- a line

module _ (R bytes : List ℕ) (i : ℕ) {q : ℕ} (asks : q ≡ record_question R i) where
  line_to : {y : ℕ} → q < length bytes → y ≡ chosen (is_yes (get_or bytes q 0)) (record_yes R i) (record_no R i) → Line y ≡ line_at R bytes i
  unfolding line_at
  line_to h e =
      ap Line (e ∙ ap (λ (n : ℕ). chosen (is_yes (get_or bytes n 0)) (record_yes R i) (record_no R i)) asks)
      ∙ let l : record_question R i < length bytes = omega arith in rw (lt-ltb (record_question R i) (length bytes) l)

  pub line_no : {y : ℕ} → q < length bytes → get_or bytes q 0 ≡ 0 → y ≡ record_no R i → Line y ≡ line_at R bytes i
  line_no h z e = line_to h (e ∙ sym (ap (λ (b : ℕ). chosen (is_yes b) (record_yes R i) (record_no R i)) z))

  pub line_yes : {y : ℕ} → q < length bytes → (get_or bytes q 0 ≡ 0 → ⊥) → y ≡ record_yes R i → Line y ≡ line_at R bytes i
  line_yes h d e = line_to h (e ∙ sym (ap (λ (b : Bool). chosen b (record_yes R i) (record_no R i)) (is_yes_lem (get_or bytes q 0) d)))

  pub line_wrong : length bytes ≤ q → Wrong ≡ line_at R bytes i
  unfolding line_at
  line_wrong h = let l : length bytes ≤ record_question R i = omega arith in rw (le-ltb (record_question R i) (length bytes) l)

-- ---- a record

module _ (R : List ℕ) (first count : ℕ) (bytes : List ℕ) (k : ℕ) where
  pub meet_outside : record_there R first count k ≡ false → Wrong ≡ meet_at R first count bytes k
  unfolding meet_at
  meet_outside e = sym (ap (λ (b : Bool). cond b (kind_at R bytes (first + k)) Wrong) e)

  module _ (there : record_there R first count k ≡ true) where
    inside : kind_at R bytes (first + k) ≡ meet_at R first count bytes k
    unfolding meet_at
    inside = sym (ap (λ (b : Bool). cond b (kind_at R bytes (first + k)) Wrong) there)

    module _ {c : ℕ} (kind : c ≡ record_kind R (first + k)) where
      pub meet_line : {x : Met} → c ≡ 0 → x ≡ line_at R bytes (first + k) → x ≡ meet_at R first count bytes k
      unfolding kind_at
      meet_line z e =
          e ∙ sym (ap (λ (b : Bool). cond b (line_at R bytes (first + k)) (cond (eqb (record_kind R (first + k)) 1) (Leaf (record_pdf R (first + k))) Wrong)) (eq-eqb (record_kind R (first + k)) 0 (sym kind ∙ z)))
          ∙ inside

      pub meet_leaf : {n : ℕ} → c ≡ 1 → n ≡ record_pdf R (first + k) → Leaf n ≡ meet_at R first count bytes k
      unfolding kind_at
      meet_leaf o e =
          ap Leaf e
          ∙ sym (ap₂ (λ (a b : Bool). cond a (line_at R bytes (first + k)) (cond b (Leaf (record_pdf R (first + k))) Wrong)) (ne_eqb (record_kind R (first + k)) 0 (λ q. omega arith)) (eq-eqb (record_kind R (first + k)) 1 (sym kind ∙ o)))
          ∙ inside

      pub meet_other : (c ≡ 0 → ⊥) → (c ≡ 1 → ⊥) → Wrong ≡ meet_at R first count bytes k
      unfolding kind_at
      meet_other d t =
          sym (ap₂ (λ (a b : Bool). cond a (line_at R bytes (first + k)) (cond b (Leaf (record_pdf R (first + k))) Wrong)) (ne_eqb (record_kind R (first + k)) 0 (λ q. d (kind ∙ q))) (ne_eqb (record_kind R (first + k)) 1 (λ q. t (kind ∙ q))))
          ∙ inside

  -- a line that is met stands among the records that the table has
  pub line_within : {j : ℕ} → meet_at R first count bytes k ≡ Line j → k < records_in R first count
  unfolding meet_at
  line_within {j} e = go (record_there R first count k) refl e
    where
      go : (b : Bool) → record_there R first count k ≡ b → cond b (kind_at R bytes (first + k)) Wrong ≡ Line j → k < records_in R first count
      go true t e = let h = record_in R first count k t in omega (arith, h.0, h.1)
      go false t e = let u : ◌≡◌ {A = ℕ} 0 1 = cc in absurd (omega arith)
