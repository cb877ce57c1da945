-- Which record asks a question, and which question is the last of its name: what was compared, as the tests say it.
use mathlib.Core.Path.{◌≡◌, refl, sym, ap, ap₂, ◌∙◌}
use mathlib.Core.Bool.{Bool, true, false, not, cond, ◌&&◌, ◌||◌}
use mathlib.Core.List.{List, [], ◌∷◌}
use Prim.Native.Nat.{ℕ, ◌+◌, ◌-◌}
use native.Mathlib.Omega.{arith}
use borrow.Author.Tests.{ltb-false, eq-eqb, ne_eqb, eqb-true}
use lib.Dec.{ltb, eqb}
use Rattle.std.specs.declared.cmp.Ordering.TheVariants.{Less, Equal, Greater}
use Rattle.written.specs.Bytes.{same}
use Rattle.laws.specs.Every.{all}
use Rattle.laws.proofs.Every.{first_of, second_of}
use Rattle.link_order.specs.Keys.{name_key, name_at}
use Rattle.link_order.specs.Sides.{side_of}
use Rattle.link_order.proofs.Names.{Small, name_one, is_same}
use Rattle.table_rows.specs.Rows.{question_rows, record_rows, record_kind, record_question}
use Rattle.write_questions.specs.Tests.{unlike_name, last_named, asks_other, not_hidden}

-- ---- two names

pub same_same : (w : List ℕ) → same w w ≡ true
unfolding same
same_same [] = refl
same_same (b ∷ w) = ap₂ ◌&&◌ (eq-eqb b b refl) (same_same w)

pub same_says : (u v : List ℕ) → same u v ≡ true → u ≡ v
unfolding same
same_says [] [] e = refl
same_says [] (c ∷ v) e = let z : ◌≡◌ {A = ℕ} 0 1 = cc in absurd (omega arith)
same_says (b ∷ u) [] e = let z : ◌≡◌ {A = ℕ} 0 1 = cc in absurd (omega arith)
same_says (b ∷ u) (c ∷ v) e = ap₂ ◌∷◌ (eqb-true b c (first_of _ _ e)) (same_says u v (second_of (eqb b c) _ e))

pub not_same : (u v : List ℕ) → (u ≡ v → ⊥) → same u v ≡ false
not_same u v n = go (same u v) refl
  where
    go : (b : Bool) → same u v ≡ b → same u v ≡ false
    go true e = absurd (n (same_says u v e))
    go false e = e

-- by how their keys stand
module _ (u v : List ℕ) where
  sides : (b c : Bool) → ltb (name_key u) (name_key v) ≡ b → ltb (name_key v) (name_key u) ≡ c → side_of (name_key u) (name_key v) ≡ cond b Less (cond c Greater Equal)
  unfolding side_of
  sides b c e f = ap₂ (λ (x y : Bool). cond x Less (cond y Greater Equal)) e f

  pub by_same : Small u → Small v → Equal ≡ side_of (name_key u) (name_key v) → true ≡ same u v
  by_same s t q = go (ltb (name_key u) (name_key v)) (ltb (name_key v) (name_key u)) refl refl
    where
      go : (b c : Bool) → ltb (name_key u) (name_key v) ≡ b → ltb (name_key v) (name_key u) ≡ c → true ≡ same u v
      go true c e f = let z = q ∙ sides true c e f in let w : ◌≡◌ {A = ℕ} 0 1 = cc in absurd (omega arith)
      go false true e f = let z = q ∙ sides false true e f in let w : ◌≡◌ {A = ℕ} 0 1 = cc in absurd (omega arith)
      go false false e f =
          let k : name_key u ≡ name_key v = omega (arith, ltb-false (name_key u) (name_key v) e, ltb-false (name_key v) (name_key u) f) in
          sym (ap (λ (w : List ℕ). same w v) (name_one u v s t k) ∙ same_same v)

  unlike : (name_key u ≡ name_key v → ⊥) → false ≡ same u v
  unlike n = sym (not_same u v (λ e. n (ap name_key e)))

  pub by_below : Less ≡ side_of (name_key u) (name_key v) → false ≡ same u v
  by_below q = unlike (λ e. let z = q ∙ sym (is_same e) in let w : ◌≡◌ {A = ℕ} 0 1 = cc in omega arith)

  pub by_above : Greater ≡ side_of (name_key u) (name_key v) → false ≡ same u v
  by_above q = unlike (λ e. let z = q ∙ sym (is_same e) in let w : ◌≡◌ {A = ℕ} 0 1 = cc in omega arith)

-- ---- a record

module _ (R : List ℕ) (q i : ℕ) where
  pub asks_line : {a b : ℕ} → a ≡ record_kind R i → a ≡ 0 → b ≡ record_question R i → not (eqb b q) ≡ asks_other R q i
  unfolding asks_other
  asks_line u z v = ap (λ (x : ℕ). not (eqb x q)) v ∙ sym (ap (λ (x : Bool). not (x && eqb (record_question R i) q)) (eq-eqb (record_kind R i) 0 (sym u ∙ z)))

  pub asks_no_line : {a : ℕ} → a ≡ record_kind R i → (a ≡ 0 → ⊥) → not (eqb a 0) ≡ asks_other R q i
  unfolding asks_other
  asks_no_line u z = ap not (ne_eqb _ 0 z) ∙ sym (ap (λ (x : Bool). not (x && eqb (record_question R i) q)) (ne_eqb (record_kind R i) 0 (λ e. z (u ∙ e))))

-- ---- a name

module _ (d Q : List ℕ) (q : ℕ) where
  pub named_so : (j : ℕ) {u v : List ℕ} {a b : Bool} → u ≡ name_at d Q j → v ≡ name_at d Q q → a ≡ same u v → a ≡ b → unlike_name d Q q j ≡ not b
  unfolding unlike_name
  named_so j x y s e = ap not (sym (ap₂ same x y) ∙ sym s ∙ e)

  -- with the count by its name
  pub last_so : {n : ℕ} {r : Bool} → n ≡ question_rows Q → r ≡ all (unlike_name d Q q) (q + 1) (n - (q + 1)) → r ≡ last_named d Q q
  unfolding last_named
  last_so u e = e ∙ ap (λ (m : ℕ). all (unlike_name d Q q) (q + 1) (m - (q + 1))) u

module _ (d Q R : List ℕ) (q : ℕ) where
  pub is_last : {r : Bool} → r ≡ last_named d Q q → r ≡ true → true ≡ not_hidden d Q R q
  unfolding not_hidden
  is_last u e = sym (ap (λ (x : Bool). x || all (asks_other R q) 0 (record_rows R)) (sym u ∙ e))

  pub not_last : {r s : Bool} → r ≡ last_named d Q q → r ≡ false → s ≡ all (asks_other R q) 0 (record_rows R) → s ≡ not_hidden d Q R q
  unfolding not_hidden
  not_last u e v = v ∙ sym (ap (λ (x : Bool). x || all (asks_other R q) 0 (record_rows R)) (sym u ∙ e))
