-- Values, lines and records: one law for each way out of the functions that test them.
use mathlib.Core.Path.{◌≡◌, sym, ap, ap₂, ◌∙◌}
use mathlib.Core.Bool.{Bool, true, false, cond, ◌&&◌, ◌||◌}
use mathlib.Core.List.{List}
use Prim.Native.Nat.{ℕ, ◌+◌, ◌-◌, ◌*◌, ◌/◌, ◌≤◌, ◌<◌}
use native.Mathlib.Nat.{mul-zero, zero-mul, mul_comm, mul-pos, le-div_iff_mul-le}
use native.Mathlib.Decide.{dec_lt}
use native.Mathlib.Omega.{arith}
use borrow.Author.Tests.{lt-ltb, le-ltb, le-leb, lt-leb, eq-eqb, ne_eqb}
use lib.Dec.{ltb, leb, eqb}
use lib.ListN.{length}
use Rattle.table_rows.specs.Rows.{question_there, record_there, record_kind, record_question, record_pdf, record_yes, record_no, tree_first, tree_records, tree_value, tree_entries}
use Rattle.walk_leaves.specs.Conditions.{leaf_fits}
use Rattle.laws.specs.Every.{all}
use Rattle.walk_leaves.specs.Checks.{line_fits, kind_fits, record_fits, values_fit, tree_fits}
use Rattle.laws.proofs.Every.{not_first, then_second}

-- ---- values

module _ (values : List ℕ) (first entries width : ℕ) where
  none_fit : entries * width ≡ 0 → true ≡ values_fit values first entries width
  unfolding values_fit
  none_fit e = sym (ap (λ (b : Bool). b || leb (first + entries * width) (length values)) (eq-eqb (entries * width) 0 e))

  pub no_entries : entries ≡ 0 → true ≡ values_fit values first entries width
  no_entries e = none_fit (ap (λ (n : ℕ). n * width) e ∙ zero-mul width)

  pub no_width : width ≡ 0 → true ≡ values_fit values first entries width
  no_width e = none_fit (ap (λ (n : ℕ). entries * n) e ∙ mul-zero entries)

  module _ (e : entries ≡ 0 → ⊥) (w : width ≡ 0 → ⊥) where
    some : 0 < entries * width
    some = mul-pos {m = entries} {n = width} (omega (arith, e)) (omega (arith, w))

    ends : leb (first + entries * width) (length values) ≡ values_fit values first entries width
    unfolding values_fit
    ends = sym (ap (λ (b : Bool). b || leb (first + entries * width) (length values)) (ne_eqb (entries * width) 0 (λ q. omega (arith, some))))

    pub starts_past : length values < first → false ≡ values_fit values first entries width
    starts_past h = sym (lt-leb (first + entries * width) (length values) (omega arith)) ∙ ends

    pub by_room : first ≤ length values → leb width ((length values - first) / entries) ≡ values_fit values first entries width
    by_room h = go (dec_lt ((length values - first) / entries) width) ∙ ends
      where
        whole : (width ≤ (length values - first) / entries → width * entries ≤ length values - first) × (width * entries ≤ length values - first → width ≤ (length values - first) / entries)
        whole = le-div_iff_mul-le (omega (arith, e))

        go : Dec ((length values - first) / entries < width) → leb width ((length values - first) / entries) ≡ leb (first + entries * width) (length values)
        go (yes l) =
            lt-leb width ((length values - first) / entries) l
            ∙ sym (lt-leb (first + entries * width) (length values) (past (dec_lt (length values) (first + entries * width))))
          where
            past : Dec (length values < first + entries * width) → length values < first + entries * width
            past (yes m) = m
            past (no m) = absurd (let q = whole.1 (omega (arith, mul_comm width entries)) in omega arith)
        go (no l) = le-leb width ((length values - first) / entries) (omega arith) ∙ sym (le-leb (first + entries * width) (length values) (let q = whole.0 (omega arith) in omega (arith, mul_comm width entries)))

-- ---- a line

module _ (questions records : List ℕ) (count i : ℕ) {q : ℕ} (asks : q ≡ record_question records i) where
  pub no_question : question_there questions q ≡ false → false ≡ line_fits questions records count i
  unfolding line_fits
  no_question h = not_first (ltb (record_yes records i) count && ltb (record_no records i) count) (ap (question_there questions) (sym asks) ∙ h)

  module _ (asked : question_there questions q ≡ true) {y : ℕ} (goes : y ≡ record_yes records i) where
    there : question_there questions (record_question records i) ≡ true
    there = ap (question_there questions) (sym asks) ∙ asked

    pub no_yes : count ≤ y → false ≡ line_fits questions records count i
    unfolding line_fits
    no_yes h = then_second there (not_first (ltb (record_no records i) count) (le-ltb (record_yes records i) count (omega arith)))

    pub by_no : {n : ℕ} → y < count → n ≡ record_no records i → ltb n count ≡ line_fits questions records count i
    unfolding line_fits
    by_no h e = then_second there (then_second (lt-ltb (record_yes records i) count (omega arith)) (ap (λ (m : ℕ). ltb m count) e))

-- ---- a record

module _ (questions records : List ℕ) (first count entries k : ℕ) where
  pub not_there : record_there records first count k ≡ false → false ≡ record_fits questions records first count entries k
  unfolding record_fits
  not_there e = not_first (kind_fits questions records count entries (first + k)) e

  module _ (there : record_there records first count k ≡ true) {c : ℕ} (kind : c ≡ record_kind records (first + k)) where
    pub a_line : {r : Bool} → c ≡ 0 → r ≡ line_fits questions records count (first + k) → r ≡ record_fits questions records first count entries k
    unfolding record_fits kind_fits
    a_line z e =
        then_second there
        (e ∙ sym (ap (λ (b : Bool). cond b (line_fits questions records count (first + k)) (cond (eqb (record_kind records (first + k)) 1) (leaf_fits (record_pdf records (first + k)) entries) false)) (eq-eqb (record_kind records (first + k)) 0 (sym kind ∙ z))))

    pub a_leaf : {r : Bool} {n : ℕ} → c ≡ 1 → n ≡ record_pdf records (first + k) → r ≡ leaf_fits n entries → r ≡ record_fits questions records first count entries k
    unfolding record_fits kind_fits
    a_leaf o p e =
        then_second there
        (e ∙ ap (λ (n : ℕ). leaf_fits n entries) p
        ∙ sym (ap₂ (λ (a b : Bool). cond a (line_fits questions records count (first + k)) (cond b (leaf_fits (record_pdf records (first + k)) entries) false)) (ne_eqb (record_kind records (first + k)) 0 (λ q. omega arith)) (eq-eqb (record_kind records (first + k)) 1 (sym kind ∙ o))))

    pub another : (c ≡ 0 → ⊥) → (c ≡ 1 → ⊥) → false ≡ record_fits questions records first count entries k
    unfolding record_fits kind_fits
    another d t =
        then_second there
        (sym (ap₂ (λ (a b : Bool). cond a (line_fits questions records count (first + k)) (cond b (leaf_fits (record_pdf records (first + k)) entries) false)) (ne_eqb (record_kind records (first + k)) 0 (λ q. d (kind ∙ q))) (ne_eqb (record_kind records (first + k)) 1 (λ q. t (kind ∙ q)))))

-- ---- a tree

module _ (questions trees records values : List ℕ) (width t : ℕ) {e f : ℕ} (entries : e ≡ tree_entries trees t) (start : f ≡ tree_value trees t) where
  pub no_values : {v : Bool} → v ≡ values_fit values f e width → v ≡ false → false ≡ tree_fits questions trees records values width t
  unfolding tree_fits
  no_values g h =
      not_first (all (record_fits questions records (tree_first trees t) (tree_records trees t) (tree_entries trees t)) 0 (tree_records trees t)) (sym (ap₂ (λ (a b : ℕ). values_fit values a b width) start entries) ∙ sym g ∙ h)

  pub by_records : {first count : ℕ} {v r : Bool} → v ≡ values_fit values f e width → v ≡ true → first ≡ tree_first trees t → count ≡ tree_records trees t
      → r ≡ all (record_fits questions records first count e) 0 count → r ≡ tree_fits questions trees records values width t
  unfolding tree_fits
  by_records {first} {count} g h p q s =
      then_second (sym (ap₂ (λ (a b : ℕ). values_fit values a b width) start entries) ∙ sym g ∙ h)
      (s ∙ ap₂ (λ (a b : ℕ). all (record_fits questions records a count b) 0 count) p entries
      ∙ ap (λ (n : ℕ). all (record_fits questions records (tree_first trees t) n (tree_entries trees t)) 0 n) q)
