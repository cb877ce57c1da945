-- 02's Wish 3 in its own words: the check says yes exactly when 01's conditions hold and every leaf is at least 1.
use mathlib.Core.Path.{◌≡◌}
use mathlib.Core.List.{List}
use Prim.Native.Nat.{ℕ, ◌+◌, ◌≤◌, ◌<◌}
use native.Mathlib.Omega.{arith}
use borrow.Author.Tests.{le-leb, leb-true}
use lib.Dec.{leb}
use Rattle.laws.proofs.Every.{both, first_of, second_of}
use Rattle.table_rows.specs.Rows.{tree_first, tree_records, record_kind, record_pdf}
use Rattle.walk_leaves.specs.Conditions.{leaf_fits, RecordStands, TreeStands, LeavesFit, FormerlyFit, FromOne}

-- ---- a record

module _ {questions records : List ℕ} {count entries i : ℕ} where
  former : RecordStands questions records leaf_fits count entries i → RecordStands questions records leb count entries i
  former (RecordStands.line z s) = RecordStands.line z s
  former (RecordStands.leaf o s) = RecordStands.leaf o (second_of (leb 1 (record_pdf records i)) (leb (record_pdf records i) entries) s)

  from_one : RecordStands questions records leaf_fits count entries i → record_kind records i ≡ 1 → 1 ≤ record_pdf records i
  from_one (RecordStands.line z s) o = absurd (omega arith)
  from_one (RecordStands.leaf o s) _ = leb-true 1 (record_pdf records i) (first_of (leb 1 (record_pdf records i)) (leb (record_pdf records i) entries) s)

  stands : RecordStands questions records leb count entries i → (record_kind records i ≡ 1 → 1 ≤ record_pdf records i) → RecordStands questions records leaf_fits count entries i
  stands (RecordStands.line z s) f = RecordStands.line z s
  stands (RecordStands.leaf o s) f = RecordStands.leaf o (both (le-leb 1 (record_pdf records i) (f o)) s)

-- ---- all trees

module _ (questions trees records values : List ℕ) (width : ℕ) where
  pub fits_so : (LeavesFit questions trees records values width → FormerlyFit questions trees records values width × FromOne trees records)
      × (FormerlyFit questions trees records values width × FromOne trees records → LeavesFit questions trees records values width)
  fits_so = (λ s. (record { each = λ t h. tree (s.each t h) }, record { each = λ t h k l. from_one ((s.each t h).each k l) }), λ p. record { each = λ t h. back (p.0.each t h) (p.1.each t h) })
    where
      tree : {t : ℕ} → TreeStands leaf_fits questions trees records values width t → TreeStands leb questions trees records values width t
      tree s = record { values_there = s.values_there; inside = s.inside; each = λ k l. former (s.each k l) }

      back : {t : ℕ} → TreeStands leb questions trees records values width t
          → ((k : ℕ) → k < tree_records trees t → record_kind records (tree_first trees t + k) ≡ 1 → 1 ≤ record_pdf records (tree_first trees t + k))
          → TreeStands leaf_fits questions trees records values width t
      back s f = record { values_there = s.values_there; inside = s.inside; each = λ k l. stands (s.each k l) (f k l) }
