-- The leaf check says yes exactly where the conditions hold, and what its contract fixes.
use mathlib.Core.Path.{◌≡◌, refl, sym, ap, ◌∙◌}
use mathlib.Core.Bool.{Bool, true, false, cond, ◌&&◌, ◌||◌}
use mathlib.Core.List.{List}
use Prim.Native.Nat.{ℕ, zero, suc, ◌+◌, ◌*◌, ◌<◌}
use native.Mathlib.Omega.{arith}
use borrow.Author.Tests.{lt-ltb, ltb-true, le-leb, leb-true, eq-eqb, ne_eqb, eqb-true}
use lib.Dec.{ltb, leb, eqb}
use lib.ListN.{length}
use Rattle.table_rows.specs.Rows.{question_there, tree_rows, tree_first, tree_records, record_there, record_kind, record_question, record_pdf, record_yes, record_no, tree_value, tree_entries}
use Rattle.walk_leaves.specs.Conditions.{leaf_fits, LineStands, RecordStands, ValuesStand, TreeStands, LeavesFit}
use Rattle.laws.specs.Every.{all}
use Rattle.walk_leaves.specs.Checks.{line_fits, kind_fits, record_fits, values_fit, tree_fits, leaves_fit}
use Rattle.laws.proofs.Every.{both, first_of, second_of, all_each, each_all}

-- ---- values

module _ (values : List ℕ) (first entries width : ℕ) where
  says_values : values_fit values first entries width ≡ true → ValuesStand values first entries width
  unfolding values_fit
  says_values e = go (eqb (entries * width) 0) refl e
    where
      go : (b : Bool) → eqb (entries * width) 0 ≡ b → (b || leb (first + entries * width) (length values)) ≡ true → ValuesStand values first entries width
      go true q h = record { each = λ v l. absurd (omega (arith, eqb-true (entries * width) 0 q)) }
      go false q h = record { each = λ v l. omega (arith, leb-true (first + entries * width) (length values) h) }

  -- the last of them stands inside
  values_say : ValuesStand values first entries width → values_fit values first entries width ≡ true
  unfolding values_fit
  values_say s = go (entries * width) refl
    where
      go : (n : ℕ) → entries * width ≡ n → (eqb (entries * width) 0 || leb (first + entries * width) (length values)) ≡ true
      go zero q = ap (λ (b : Bool). b || leb (first + entries * width) (length values)) (eq-eqb (entries * width) 0 q)
      go (suc n) q =
          let h = s.each n (omega arith) in
          ap (λ (b : Bool). b || leb (first + entries * width) (length values)) (ne_eqb (entries * width) 0 (λ z. omega arith))
          ∙ le-leb (first + entries * width) (length values) (omega (arith, h))

-- ---- records

module _ (questions records : List ℕ) (count : ℕ) where
  says_line : (i : ℕ) → line_fits questions records count i ≡ true → LineStands questions records count i
  unfolding line_fits
  says_line i e =
      let r = second_of (question_there questions (record_question records i)) (ltb (record_yes records i) count && ltb (record_no records i) count) e in
      record {
        question = (first_of (question_there questions (record_question records i)) (ltb (record_yes records i) count && ltb (record_no records i) count) e);
        yes_record = ltb-true (record_yes records i) count (first_of (ltb (record_yes records i) count) (ltb (record_no records i) count) r);
        no_record = ltb-true (record_no records i) count (second_of (ltb (record_yes records i) count) (ltb (record_no records i) count) r);
      }

  line_says : (i : ℕ) → LineStands questions records count i → line_fits questions records count i ≡ true
  unfolding line_fits
  line_says i s =
      both s.question
      (both (lt-ltb (record_yes records i) count s.yes_record) (lt-ltb (record_no records i) count s.no_record))

  module _ (entries : ℕ) where
    says_kind : (i : ℕ) → kind_fits questions records count entries i ≡ true → RecordStands questions records leaf_fits count entries i
    unfolding kind_fits
    says_kind i e = go (eqb (record_kind records i) 0) (eqb (record_kind records i) 1) refl refl e
      where
        go : (a b : Bool) → eqb (record_kind records i) 0 ≡ a → eqb (record_kind records i) 1 ≡ b
            → cond a (line_fits questions records count i) (cond b (leaf_fits (record_pdf records i) entries) false) ≡ true → RecordStands questions records leaf_fits count entries i
        go true b p q h = RecordStands.line (eqb-true (record_kind records i) 0 p) (says_line i h)
        go false true p q h = RecordStands.leaf (eqb-true (record_kind records i) 1 q) h
        go false false p q h = let u : ◌≡◌ {A = ℕ} 0 1 = cc in absurd (omega arith)

    kind_says : (i : ℕ) → RecordStands questions records leaf_fits count entries i → kind_fits questions records count entries i ≡ true
    unfolding kind_fits
    kind_says i (RecordStands.line z s) =
        ap (λ (b : Bool). cond b (line_fits questions records count i) (cond (eqb (record_kind records i) 1) (leaf_fits (record_pdf records i) entries) false)) (eq-eqb (record_kind records i) 0 z)
        ∙ line_says i s
    kind_says i (RecordStands.leaf o s) =
        ap (λ (b : Bool). cond b (line_fits questions records count i) (cond (eqb (record_kind records i) 1) (leaf_fits (record_pdf records i) entries) false)) (ne_eqb (record_kind records i) 0 (λ q. omega arith))
        ∙ ap (λ (b : Bool). cond b (leaf_fits (record_pdf records i) entries) false) (eq-eqb (record_kind records i) 1 o)
        ∙ s

-- ---- trees

module _ (questions trees records values : List ℕ) (width : ℕ) where
  says_tree : (t : ℕ) → tree_fits questions trees records values width t ≡ true → TreeStands leaf_fits questions trees records values width t
  unfolding tree_fits record_fits
  says_tree t e =
      record {
        values_there = says_values values (tree_value trees t) (tree_entries trees t) width (first_of fitting every e);
        inside = λ k h. first_of (record_there records (tree_first trees t) (tree_records trees t) k) (kind_fits questions records (tree_records trees t) (tree_entries trees t) (tree_first trees t + k)) (at k h);
        each = λ k h. says_kind questions records (tree_records trees t) (tree_entries trees t) (tree_first trees t + k) (second_of (record_there records (tree_first trees t) (tree_records trees t) k) (kind_fits questions records (tree_records trees t) (tree_entries trees t) (tree_first trees t + k)) (at k h));
      }
    where
      fitting : Bool
      fitting = values_fit values (tree_value trees t) (tree_entries trees t) width

      every : Bool
      every = all (record_fits questions records (tree_first trees t) (tree_records trees t) (tree_entries trees t)) 0 (tree_records trees t)

      at : (k : ℕ) → k < tree_records trees t → record_fits questions records (tree_first trees t) (tree_records trees t) (tree_entries trees t) k ≡ true
      at k h = all_each (record_fits questions records (tree_first trees t) (tree_records trees t) (tree_entries trees t)) 0 (tree_records trees t) (second_of fitting every e) k (omega arith) (omega arith)

  tree_says : (t : ℕ) → TreeStands leaf_fits questions trees records values width t → tree_fits questions trees records values width t ≡ true
  unfolding tree_fits record_fits
  tree_says t s =
      both (values_say values (tree_value trees t) (tree_entries trees t) width s.values_there)
      (each_all (record_fits questions records (tree_first trees t) (tree_records trees t) (tree_entries trees t)) 0 (tree_records trees t)
      (λ k l h.
      let m : k < tree_records trees t = omega arith in
      both (s.inside k m) (kind_says questions records (tree_records trees t) (tree_entries trees t) (tree_first trees t + k) (s.each k m))))

  -- yes exactly where the conditions hold
  pub fits_says : leaves_fit questions trees records values width ≡ true → LeavesFit questions trees records values width
  unfolding leaves_fit
  fits_says e = record { each = λ t h. says_tree t (all_each (tree_fits questions trees records values width) 0 (tree_rows trees) e t (omega arith) (let l = ltb-true t (tree_rows trees) h in omega arith)) }

  pub says_fits : LeavesFit questions trees records values width → leaves_fit questions trees records values width ≡ true
  unfolding leaves_fit
  says_fits s = each_all (tree_fits questions trees records values width) 0 (tree_rows trees) (λ t l h. tree_says t (s.each t (lt-ltb t (tree_rows trees) (omega arith))))

  -- the same of what `leaves_fit` returns
  pub yes_exactly : {r : Bool} → r ≡ leaves_fit questions trees records values width
      → (r ≡ true → LeavesFit questions trees records values width) × (LeavesFit questions trees records values width → r ≡ true)
  yes_exactly e = (λ q. fits_says (sym e ∙ q), λ s. e ∙ says_fits s)

  -- any two outcomes that its contract allows are equal
  pub leaves_once : {r s : Bool} → r ≡ leaves_fit questions trees records values width → s ≡ leaves_fit questions trees records values width → r ≡ s
  leaves_once a b = a ∙ sym b
