-- What is seen at a record, as the rows of the tree have it: a line, a leaf, or nothing that is good.
use mathlib.Core.Path.{◌≡◌, refl, ap, ◌∙◌, subst}
use mathlib.Core.Bool.{Bool, true, false, cond}
use mathlib.Core.List.{List, [], ◌∷◌}
use mathlib.Core.Logic.{◌⊎◌, inl, inr}
use Prim.Native.Nat.{ℕ, ◌+◌, ◌-◌, ◌≤◌, ◌<◌, min}
use native.Mathlib.Omega.{arith}
use borrow.Author.Tests.{eqb-true, eqb-false}
use lib.Dec.{eqb}
use lib.ListN.{length, drop, length-take, length-drop}
use Rattle.written.specs.Linking.{Nth, Row, branch}
use Rattle.written.specs.Depths.{stay, on, Refers, by_yes, by_no, Met, Good}
use Rattle.written.proofs.Walk.{nth_once}
use Rattle.written_depth.proofs.Deepest.{then}
use Rattle.table_rows.specs.Rows.{record_table, record_there, records_in, record_kind, record_question, record_yes, record_no, record_row}
use Rattle.table_rows.proofs.Stand.{nth_below, record_stands, record_out, records_many}
use Rattle.walk_reach.specs.Seeing.{tree_records_of, kind_seen, seen_at}
use Rattle.walk_reach.specs.declared.Seen.{Seen}
use Rattle.walk_reach.specs.declared.Seen.TheVariants.{Leaf, Line, Wrong}

-- ---- references

module _ {rows : List Row} where
  -- what a record refers to is met too
  pub met_on : {k j : ℕ} → Met rows k → Refers rows k j → Met rows j
  met_on m r = (m.0 + 1, then m.1 (on r stay))

  good_below : {k : ℕ} → Good rows k → k < length rows
  good_below (Good.line h) = nth_below h
  good_below (Good.leaf h) = nth_below h

  -- a line refers to its yes and its no
  pub line_refers : {k j q y n : ℕ} → Nth rows k (branch q y n) → Refers rows k j → (j ≡ y) ⊎ (j ≡ n)
  line_refers {j = j} {q = q} {y = y} {n = n} h (by_yes {q = r} {n = x} g) = let e : branch r j x ≡ branch q y n = nth_once g h in inl (cc)
  line_refers {j = j} {q = q} {y = y} {n = n} h (by_no {q = r} {y = x} g) = let e : branch r x j ≡ branch q y n = nth_once g h in inr (cc)

  -- a leaf to nothing
  pub leaf_refers : {k j p a b : ℕ} → Nth rows k (1 ∷ p ∷ a ∷ b ∷ []) → Refers rows k j → ⊥
  leaf_refers {j = j} {p = p} {a = a} {b = b} h (by_yes {q = r} {n = x} g) = let e : 1 ∷ p ∷ a ∷ b ∷ [] ≡ branch r j x = nth_once h g in let z : ◌≡◌ {A = ℕ} 1 0 = cc in omega arith
  leaf_refers {j = j} {p = p} {a = a} {b = b} h (by_no {q = r} {y = x} g) = let e : 1 ∷ p ∷ a ∷ b ∷ [] ≡ branch r x j = nth_once h g in let z : ◌≡◌ {A = ℕ} 1 0 = cc in omega arith

  other_kind : {k c a y n : ℕ} → Nth rows k (c ∷ a ∷ y ∷ n ∷ []) → (c ≡ 0 → ⊥) → (c ≡ 1 → ⊥) → ¬ Good rows k
  other_kind {c = c} {a = a} {y = y} {n = n} h d t (Good.line {q = q} {y = u} {n = v} g) = let e : c ∷ a ∷ y ∷ n ∷ [] ≡ branch q u v = nth_once h g in d (cc)
  other_kind {c = c} {a = a} {y = y} {n = n} h d t (Good.leaf {n = q} {a = u} {b = v} g) = let e : c ∷ a ∷ y ∷ n ∷ [] ≡ 1 ∷ q ∷ u ∷ v ∷ [] = nth_once h g in t (cc)

-- ---- what is seen

-- what a `Seen` says of the rows
pub data Sees (rows : List Row) (k : ℕ) : Seen → Type 0 where
  a_line : {q y n : ℕ} → Nth rows k (branch q y n) → Sees rows k (Line y n)
  a_leaf : {n a b : ℕ} → Nth rows k (1 ∷ n ∷ a ∷ b ∷ []) → Sees rows k Leaf
  wrong : ¬ Good rows k → Sees rows k Wrong

module _ {rows : List Row} {k : ℕ} where
  pub line_there : {s : Seen} {y n : ℕ} → Sees rows k s → s ≡ Line y n → (q : ℕ) × Nth rows k (branch q y n)
  line_there {y = y} {n = n} (a_line {q = q} {y = u} {n = v} h) e =
      let a : u ≡ y = cc in
      let b : v ≡ n = cc in
      (q, subst (λ (x : ℕ). Nth rows k (branch q y x)) b (subst (λ (x : ℕ). Nth rows k (branch q x v)) a h))
  line_there (a_leaf h) e = let z : ◌≡◌ {A = ℕ} 0 1 = cc in absurd (omega arith)
  line_there (wrong g) e = let z : ◌≡◌ {A = ℕ} 0 1 = cc in absurd (omega arith)

  pub leaf_there : {s : Seen} → Sees rows k s → s ≡ Leaf → (n : ℕ) × (a : ℕ) × (b : ℕ) × Nth rows k (1 ∷ n ∷ a ∷ b ∷ [])
  leaf_there (a_line h) e = let z : ◌≡◌ {A = ℕ} 0 1 = cc in absurd (omega arith)
  leaf_there (a_leaf {n = n} {a = a} {b = b} h) e = (n, a, b, h)
  leaf_there (wrong g) e = let z : ◌≡◌ {A = ℕ} 0 1 = cc in absurd (omega arith)

  pub wrong_there : {s : Seen} → Sees rows k s → s ≡ Wrong → ¬ Good rows k
  wrong_there (a_line h) e = let z : ◌≡◌ {A = ℕ} 0 1 = cc in absurd (omega arith)
  wrong_there (a_leaf h) e = let z : ◌≡◌ {A = ℕ} 0 1 = cc in absurd (omega arith)
  wrong_there (wrong g) e = g

module _ (R : List ℕ) (first count : ℕ) where
  -- the records stand in the table
  many : length (tree_records_of R first count) ≡ records_in R first count
  many = length-take count (drop first (record_table R)) ∙ ap (min count) (length-drop first (record_table R) ∙ ap (λ (m : ℕ). m - first) (records_many R))

  pub good_inside : {k : ℕ} → Good (tree_records_of R first count) k → k < records_in R first count
  good_inside {k} g = let h : k < length (tree_records_of R first count) = good_below g in subst (λ (m : ℕ). k < m) many h

  pub not_good : {k n : ℕ} → n ≡ records_in R first count → n ≤ k → ¬ Good (tree_records_of R first count) k
  not_good e h g = omega (arith, good_inside g)

  sees_kind : (k : ℕ) → Nth (tree_records_of R first count) k (record_row R (first + k)) → Sees (tree_records_of R first count) k (kind_seen R (first + k))
  unfolding kind_seen
  sees_kind k h = go (eqb (record_kind R i) 0) (eqb (record_kind R i) 1) refl refl
    where
      i : ℕ
      i = first + k

      go : (a b : Bool) → eqb (record_kind R i) 0 ≡ a → eqb (record_kind R i) 1 ≡ b → Sees (tree_records_of R first count) k (cond a (Line (record_yes R i) (record_no R i)) (cond b Leaf Wrong))
      go true b p q = a_line (subst (λ (c : ℕ). Nth (tree_records_of R first count) k (c ∷ record_question R i ∷ record_yes R i ∷ record_no R i ∷ [])) (eqb-true (record_kind R i) 0 p) h)
      go false true p q = a_leaf (subst (λ (c : ℕ). Nth (tree_records_of R first count) k (c ∷ record_question R i ∷ record_yes R i ∷ record_no R i ∷ [])) (eqb-true (record_kind R i) 1 q) h)
      go false false p q = wrong (other_kind h (eqb-false (record_kind R i) 0 p) (eqb-false (record_kind R i) 1 q))

  pub sees : (k : ℕ) → Sees (tree_records_of R first count) k (seen_at R first count k)
  unfolding seen_at
  sees k = go (record_there R first count k) refl
    where
      missing : ((r : Row) → ¬ Nth (tree_records_of R first count) k r) → ¬ Good (tree_records_of R first count) k
      missing f (Good.line {q = q} {y = y} {n = n} h) = f (branch q y n) h
      missing f (Good.leaf {n = n} {a = a} {b = b} h) = f (1 ∷ n ∷ a ∷ b ∷ []) h

      go : (b : Bool) → record_there R first count k ≡ b → Sees (tree_records_of R first count) k (cond b (kind_seen R (first + k)) Wrong)
      go true e = sees_kind k (record_stands R first count k e)
      go false e = wrong (missing (record_out R first count k e))
