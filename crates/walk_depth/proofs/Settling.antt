-- Each way through `settle`: a record that can be met is a leaf, or a line whose sides can be met too.
use mathlib.Core.Path.{◌≡◌, refl, sym, ap₂, ◌∙◌, subst}
use mathlib.Core.List.{List, [], ◌∷◌}
use mathlib.Core.Logic.{inl, inr}
use Prim.Native.Nat.{ℕ, zero, suc, ◌+◌, ◌-◌, ◌≤◌, ◌<◌, max}
use native.Mathlib.Decide.{dec_lt}
use native.Mathlib.Omega.{arith}
use borrow.Author.Tests.{lt-ltb}
use lib.IntN.{ℤ}
use Rattle.written.specs.Linking.{Nth, branch}
use Rattle.written.specs.Depths.{by_yes, by_no, Met, Good}
use Rattle.written.proofs.Walk.{nth_once}
use Rattle.written_depth.proofs.Deepest.{Deep}
use Rattle.laws.proofs.Every.{both}
use Rattle.table_rows.specs.Rows.{record_rows, records_in, record_kind, record_question, record_yes, record_no, record_row}
use Rattle.table_rows.proofs.Stand.{record_stands}
use Rattle.walk_reach.specs.Work.{slot_at}
use Rattle.walk_reach.specs.Seeing.{tree_records_of}
use Rattle.walk_reach.proofs.Rows.{met_on, good_inside}
use Rattle.walk_depth.specs.Climbing.{Knows, Settles, settled, down}
use Rattle.walk_depth.specs.Said.{AllGood}
use Rattle.walk_depth.specs.declared.Next.TheVariants.{Settled, Down}

-- the deeper of two, each with one taken away
max_less : (a b : ℕ) → (a ≡ 0 → ⊥) → (b ≡ 0 → ⊥) → suc (max (a - 1) (b - 1)) ≡ max a b
max_less zero b d e = absurd (d refl)
max_less (suc a) zero d e = absurd (e refl)
max_less (suc a) (suc b) d e = let p : suc a - 1 ≡ a = omega arith in let q : suc b - 1 ≡ b = omega arith in ap₂ (λ (x y : ℕ). suc (max x y)) p q ∙ more (dec_lt a b)
  where
    more : Dec (a < b) → suc (max a b) ≡ max (suc a) (suc b)
    more (yes h) = omega arith
    more (no h) = omega arith

one_less : (a : ℕ) → (a ≡ 0 → ⊥) → a ≡ suc (a - 1)
one_less zero d = absurd (d refl)
one_less (suc a) d = omega arith

module _ (R : List ℕ) (first count : ℕ) (good : AllGood (tree_records_of R first count)) {k : ℕ} (met : Met (tree_records_of R first count) k) where
  inside : k < records_in R first count
  inside = good_inside R first count (good k met)

  pub row_inside : first + k < record_rows R
  row_inside = omega (arith, inside)

  row : Nth (tree_records_of R first count) k (record_row R (first + k))
  row = record_stands R first count k (both (lt-ltb k count (omega (arith, inside))) (lt-ltb (first + k) (record_rows R) row_inside))

  leaf_row : (record_kind R (first + k) ≡ 0 → ⊥) → Good (tree_records_of R first count) k → (n : ℕ) × (a : ℕ) × (b : ℕ) × Nth (tree_records_of R first count) k (1 ∷ n ∷ a ∷ b ∷ [])
  leaf_row d (Good.line {q = q} {y = y} {n = n} h) =
      let e : record_kind R (first + k) ∷ record_question R (first + k) ∷ record_yes R (first + k) ∷ record_no R (first + k) ∷ [] ≡ branch q y n = nth_once row h in absurd (d (cc))
  leaf_row d (Good.leaf {n = n} {a = a} {b = b} h) = (n, a, b, h)

  pub settle_leaf : {w : List ℤ} {c : ℕ} → c ≡ record_kind R (first + k) → (c ≡ 0 → ⊥) → Settles (tree_records_of R first count) (records_in R first count) w k (Settled 1)
  settle_leaf e d = let h = leaf_row (λ z. d (e ∙ z)) (good k met) in settled (λ kn. Deep.leaf h.3) refl (inl refl)

  module _ {c y n : ℕ} (kind : c ≡ record_kind R (first + k)) (line : c ≡ 0) (yes-is : y ≡ record_yes R (first + k)) (no-is : n ≡ record_no R (first + k)) where
    line_row : Nth (tree_records_of R first count) k (branch (record_question R (first + k)) y n)
    line_row =
        subst (λ (x : ℕ). Nth (tree_records_of R first count) k (branch (record_question R (first + k)) x n)) (sym yes-is)
        (subst (λ (x : ℕ). Nth (tree_records_of R first count) k (branch (record_question R (first + k)) (record_yes R (first + k)) x)) (sym no-is)
        (subst (λ (x : ℕ). Nth (tree_records_of R first count) k (x ∷ record_question R (first + k) ∷ record_yes R (first + k) ∷ record_no R (first + k) ∷ [])) (sym kind ∙ line) row))

    pub yes_inside : y < records_in R first count
    yes_inside = good_inside R first count (good y (met_on met (by_yes line_row)))

    pub no_inside : n < records_in R first count
    no_inside = good_inside R first count (good n (met_on met (by_no line_row)))

    pub down_yes : {w : List ℤ} {a : ℕ} → a ≡ slot_at 2 w y → a ≡ 0 → Settles (tree_records_of R first count) (records_in R first count) w k (Down y)
    down_yes e z = down (by_yes line_row) (sym e ∙ z)

    pub down_no : {w : List ℤ} {b : ℕ} → b ≡ slot_at 2 w n → b ≡ 0 → Settles (tree_records_of R first count) (records_in R first count) w k (Down n)
    down_no e z = down (by_no line_row) (sym e ∙ z)

    module _ {w : List ℤ} {a b : ℕ} (one : a ≡ slot_at 2 w y) (other : b ≡ slot_at 2 w n) (known : a ≡ 0 → ⊥) (too : b ≡ 0 → ⊥) where
      deep_line : Knows (tree_records_of R first count) (records_in R first count) w → Deep (tree_records_of R first count) k (max a b)
      deep_line kn =
          subst (Deep (tree_records_of R first count) k) (max_less a b known too)
          (Deep.line line_row (kn.deep y (a - 1) yes_inside (sym one ∙ one_less a known)) (kn.deep n (b - 1) no_inside (sym other ∙ one_less b too)))

      pub settle_no : a < b → Settles (tree_records_of R first count) (records_in R first count) w k (Settled (b + 1))
      settle_no h = let e : b + 1 ≡ suc (max a b) = omega arith in let f : b + 1 ≡ suc (slot_at 2 w n) = omega (arith, other) in settled deep_line e (inr (n, no_inside, f))

      pub settle_yes : b ≤ a → Settles (tree_records_of R first count) (records_in R first count) w k (Settled (a + 1))
      settle_yes h = let e : a + 1 ≡ suc (max a b) = omega arith in let f : a + 1 ≡ suc (slot_at 2 w y) = omega (arith, one) in settled deep_line e (inr (y, yes_inside, f))
