-- Tests out of what was compared, and each way through a tree's body.
use mathlib.Core.Path.{◌≡◌, refl, sym, ap, ap₂, ◌∙◌}
use mathlib.Core.Bool.{Bool, true, false, not, cond, ◌&&◌, ◌||◌}
use mathlib.Core.List.{List}
use Prim.Native.Nat.{ℕ, suc, ◌+◌, ◌-◌, ◌≤◌, ◌<◌}
use native.Mathlib.Omega.{arith}
use borrow.Author.Tests.{lt-ltb, le-ltb, le-leb, lt-leb, leb-true, eq-eqb, ne_eqb}
use lib.Dec.{ltb, leb, eqb}
use Rattle.laws.specs.Every.{all}
use Rattle.laws.proofs.Every.{first_of, second_of, not_first, then_second}
use Rattle.table_rows.specs.Rows.{tree_state, tree_first, tree_records, tree_lines, record_rows, record_kind, record_pdf, record_yes, record_no}
use Rattle.write_records.specs.Records.{of_record}
use Rattle.write_counts.specs.Counts.{first_leaf, counted}
use Rattle.write_links.specs.Tests.{leaf_at, leaf_in, ref_in, line_in, unlike, bare_in, lines_in, body_in, tree_in, grown}

-- ---- tests of a number by another name

pub is : {a b n : ℕ} → a ≡ b → a ≡ n → eqb b n ≡ true
is {a} {b} {n} q h = eq-eqb b n (sym q ∙ h)

pub is_not : {a b n : ℕ} → a ≡ b → (a ≡ n → ⊥) → eqb b n ≡ false
is_not {a} {b} {n} q h = ne_eqb b n (λ z. h (q ∙ z))

pub is_below : {a b n : ℕ} → a ≡ b → a < n → ltb b n ≡ true
is_below {a} {b} {n} q h = lt-ltb b n (omega arith)

pub not_below : {a b n : ℕ} → a ≡ b → n ≤ a → ltb b n ≡ false
not_below {a} {b} {n} q h = le-ltb b n (omega arith)

-- ---- tests of which one is enough

pub or_first : {a : Bool} (b : Bool) → a ≡ true → true ≡ (a || b)
or_first b e = sym (ap (λ (x : Bool). x || b) e)

pub or_second : {a b r : Bool} → a ≡ false → r ≡ b → r ≡ (a || b)
or_second {a} {b} e q = q ∙ sym (ap (λ (x : Bool). x || b) e)

-- ---- a reference, a line

module _ (R : List ℕ) (f m n k : ℕ) where
  pub ref_past : m ≤ k → false ≡ ref_in R f m n k
  unfolding ref_in
  ref_past h = not_first _ (le-ltb k m h)

  module _ (l : k < m) where
    pub ref_line : k < n → true ≡ ref_in R f m n k
    unfolding ref_in
    ref_line h = then_second (lt-ltb k m l) (or_first _ (lt-ltb k n h))

    pub ref_leaf : n ≤ k → {x : Bool} → x ≡ first_leaf R f n k → x ≡ ref_in R f m n k
    unfolding ref_in
    ref_leaf h u = then_second (lt-ltb k m l) (or_second (le-ltb k n h) u)

  module _ {a : ℕ} (u : a ≡ of_record record_kind R f k) where
    pub line_other : (a ≡ 0 → ⊥) → false ≡ line_in R f m n k
    unfolding line_in
    line_other z = not_first _ (is_not u z)

    module _ (z : a ≡ 0) {y : ℕ} (v : y ≡ of_record record_yes R f k) {x : Bool} (w : x ≡ ref_in R f m n y) where
      yes_is : {b : Bool} → x ≡ b → ref_in R f m n (of_record record_yes R f k) ≡ b
      yes_is e = sym (ap (ref_in R f m n) v) ∙ sym w ∙ e

      pub line_yes : x ≡ false → false ≡ line_in R f m n k
      unfolding line_in
      line_yes e = then_second (is u z) (not_first _ (yes_is e))

      pub line_no : x ≡ true → {i : ℕ} → i ≡ of_record record_no R f k → {r : Bool} → r ≡ ref_in R f m n i → r ≡ line_in R f m n k
      unfolding line_in
      line_no e q o = then_second (is u z) (then_second (yes_is e) (o ∙ ap (ref_in R f m n) q))

-- ---- a leaf

module _ (R : List ℕ) (f n k : ℕ) {x : Bool} (u : x ≡ leaf_at R f k) where
  pub leaf_off : x ≡ false → false ≡ leaf_in R f n k
  unfolding leaf_in
  leaf_off e = not_first _ (sym u ∙ e)

  module _ (e : x ≡ true) where
    pub leaf_first : k ≡ n → true ≡ leaf_in R f n k
    unfolding leaf_in
    leaf_first h = then_second (sym u ∙ e) (or_first _ (eq-eqb k n h))

    pub leaf_later : (k ≡ n → ⊥) → {a b : ℕ} → a ≡ of_record record_pdf R f (k - 1) → b ≡ of_record record_pdf R f k → leb a b ≡ leaf_in R f n k
    unfolding leaf_in
    leaf_later h v w = then_second (sym u ∙ e) (or_second (ne_eqb k n h) (ap₂ leb v w))

-- ---- one line

module _ (R : List ℕ) (f n : ℕ) where
  pub unlike_more : (n ≡ 1 → ⊥) → true ≡ unlike R f n
  unfolding unlike
  unlike_more h = sym (ap (λ (x : Bool). not (x && eqb (of_record record_yes R f 0) (of_record record_no R f 0))) (ne_eqb n 1 h))

  pub unlike_one : n ≡ 1 → {y z : ℕ} → y ≡ of_record record_yes R f 0 → z ≡ of_record record_no R f 0 → not (eqb y z) ≡ unlike R f n
  unfolding unlike
  unlike_one h u v = ap₂ (λ (a b : ℕ). not (eqb a b)) u v ∙ sym (ap (λ (x : Bool). not (x && eqb (of_record record_yes R f 0) (of_record record_no R f 0))) (eq-eqb n 1 h))

-- ---- lines, then leaves

module _ (R : List ℕ) (f m n : ℕ) where
  pub lines_short : m < n → false ≡ lines_in R f m n
  unfolding lines_in
  lines_short h = not_first _ (lt-leb n m h)

  module _ (h : n ≤ m) {a : Bool} (u : a ≡ unlike R f n) where
    pub lines_like : a ≡ false → false ≡ lines_in R f m n
    unfolding lines_in
    lines_like e = then_second (le-leb n m h) (not_first _ (sym u ∙ e))

    module _ (e : a ≡ true) {b : Bool} (v : b ≡ all (line_in R f m n) 0 n) where
      pub lines_off : b ≡ false → false ≡ lines_in R f m n
      unfolding lines_in
      lines_off g = then_second (le-leb n m h) (then_second (sym u ∙ e) (not_first _ (sym v ∙ g)))

      module _ (g : b ≡ true) {c : Bool} (w : c ≡ all (leaf_in R f n) n (m - n)) where
        pub leaves_off : c ≡ false → false ≡ lines_in R f m n
        unfolding lines_in
        leaves_off i = then_second (le-leb n m h) (then_second (sym u ∙ e) (then_second (sym v ∙ g) (not_first _ (sym w ∙ i))))

        pub lines_counted : c ≡ true → {r : Bool} → r ≡ all (counted R f m n) n (m - n) → r ≡ lines_in R f m n
        unfolding lines_in
        lines_counted i o = then_second (le-leb n m h) (then_second (sym u ∙ e) (then_second (sym v ∙ g) (then_second (sym w ∙ i) o)))

-- ---- a body

module _ (R : List ℕ) (f m n : ℕ) where
  pub body_bare : n ≡ 0 → bare_in R f m ≡ body_in R f m n
  unfolding body_in
  body_bare h = sym (ap (λ (x : Bool). cond x (bare_in R f m) (lines_in R f m n)) (eq-eqb n 0 h))

  pub body_lines : (n ≡ 0 → ⊥) → lines_in R f m n ≡ body_in R f m n
  unfolding body_in
  body_lines h = sym (ap (λ (x : Bool). cond x (bare_in R f m) (lines_in R f m n)) (ne_eqb n 0 h))

-- ---- a tree

module _ (T R : List ℕ) (k t : ℕ) {x : ℕ} (u : x ≡ tree_state T t) where
  pub tree_large : 9223372036854775808 ≤ x → false ≡ tree_in T R k t
  unfolding tree_in
  tree_large h = not_first _ (not_below u h)

  module _ (h : x < 9223372036854775808) {f : ℕ} (v : f ≡ tree_first T t) where
    pub tree_apart : (f ≡ k → ⊥) → false ≡ tree_in T R k t
    unfolding tree_in
    tree_apart e = then_second (is_below u h) (not_first _ (is_not v e))

    module _ (e : f ≡ k) {m r : ℕ} (w : m ≡ tree_records T t) (o : r ≡ record_rows R) (l : k ≤ record_rows R) where
      pub tree_short : r - k < m → false ≡ tree_in T R k t
      unfolding tree_in
      tree_short g = then_second (is_below u h) (then_second (is v e) (not_first _ (lt-leb (k + tree_records T t) (record_rows R) (omega arith))))

      pub tree_body : m ≤ r - k → {n : ℕ} {b : Bool} → n ≡ tree_lines T t → b ≡ body_in R f m n → b ≡ tree_in T R k t
      unfolding tree_in
      tree_body g {n} q i =
          then_second (is_below u h) (then_second (is v e) (then_second (le-leb (k + tree_records T t) (record_rows R) (omega arith))
          (i ∙ ap₂ (λ (a c : ℕ). body_in R a c n) v w ∙ ap (body_in R (tree_first T t) (tree_records T t)) q)))

-- ---- trees one behind the other

module _ (T R : List ℕ) where
  -- the records so far, and those of t, are in the table
  pub tree_room : (k t : ℕ) → tree_in T R k t ≡ true → k + tree_records T t ≤ record_rows R
  unfolding tree_in
  tree_room k t e =
      leb-true (k + tree_records T t) (record_rows R) (first_of (leb (k + tree_records T t) (record_rows R)) _ (second_of (eqb (tree_first T t) k) _ (second_of (ltb (tree_state T t) 9223372036854775808) _ e)))

  pub record Growing (n t k : ℕ) : Type 0 where
    pub within : t ≤ n
    pub room : k ≤ record_rows R
    pub rest : grown T R k t (n - t) ≡ grown T R 0 0 n

  module _ (n t k : ℕ) (g : Growing n t k) where
    step : t < n → (tree_in T R k t && grown T R (k + tree_records T t) (suc t) (n - (t + 1))) ≡ grown T R 0 0 n
    unfolding grown
    step h = let e : n - t ≡ suc (n - (t + 1)) = omega arith in sym (ap (grown T R k t) e) ∙ g.rest

    pub growing_off : t < n → tree_in T R k t ≡ false → false ≡ grown T R 0 0 n
    growing_off h e = not_first _ e ∙ step h

    pub growing_on : t < n → tree_in T R k t ≡ true → {m : ℕ} → m ≡ tree_records T t → Growing n (t + 1) (k + m)
    growing_on h e {m} u =
        let j : k + m ≡ k + tree_records T t = omega arith in
        let s : t + 1 ≡ suc t = omega arith in
        record {
          within = omega arith;
          room = omega (arith, tree_room k t e);
          rest = ap₂ (λ (a b : ℕ). grown T R a b (n - (t + 1))) j s ∙ then_second e refl ∙ step h;
        }

    pub growing_end : n ≤ t → {x : ℕ} → x ≡ record_rows R → eqb k x ≡ grown T R 0 0 n
    unfolding grown
    growing_end h u = let e : n - t ≡ 0 = omega arith in ap (eqb k) u ∙ sym (ap (grown T R k t) e) ∙ g.rest
