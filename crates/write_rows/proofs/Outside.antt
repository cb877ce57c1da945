-- The test says no exactly where a row points outside.
use mathlib.Core.Path.{◌≡◌, refl, sym, ap, ◌∙◌, subst}
use mathlib.Core.Bool.{Bool, true, false, cond, ◌&&◌, ◌||◌}
use mathlib.Core.Logic.{◌⊎◌, inl, inr, ⊎_elim}
use mathlib.Core.List.{List, [], ◌∷◌}
use Prim.Native.Nat.{ℕ, zero, suc, ◌+◌, ◌-◌, ◌≤◌, ◌<◌}
use native.Mathlib.Decide.{dec_le}
use native.Mathlib.Omega.{arith}
use borrow.Author.Tests.{ltb-true, ltb-false, le-leb, lt-leb, leb-true, eq-eqb, ne_eqb, eqb-true}
use lib.Dec.{ltb, leb, eqb}
use lib.ListN.{length, get_or}
use Rattle.written.specs.Linking.{Nth, Row, branch}
use Rattle.written.specs.Writing.{Among, Outside, name, patterns, pattern, records, question, goes_yes, goes_no, first_four}
use Rattle.laws.specs.Every.{all}
use Rattle.laws.proofs.Every.{first_of, second_of, not_first, then_second, all_each}
use Rattle.table_rows.specs.Rows.{question_rows, question_there, question_start, question_len, question_first, question_patterns, pattern_rows, pattern_start, pattern_len, tree_rows, tree_first, tree_records, record_rows, record_kind, record_question, record_yes, record_no, question_row, pattern_row, record_row, rows_from, question_table, pattern_table, tree_table, record_table}
use Rattle.table_rows.proofs.Stand.{row_of, all_there, length_from}
use Rattle.write_rows.proofs.Four.{text_row, text_rows}
use Rattle.write_rows.specs.Tests.{among, question_in, pattern_in, asks_in, goes_in, tree_in, rows_in}

-- ---- tests that fail

pub either_fails : (a b : Bool) → (a && b) ≡ false → (a ≡ false) ⊎ (b ≡ false)
either_fails true b e = inr e
either_fails false b e = inl refl

-- a number at which p fails
pub record Fails (p : ℕ → Bool) (k n : ℕ) : Type 0 where
  pub i : ℕ
  pub from : k ≤ i
  pub below : i < k + n
  pub fails : p i ≡ false

pub all_fails : (p : ℕ → Bool) (k n : ℕ) → all p k n ≡ false → Fails p k n
unfolding all
all_fails p k zero e = let u : ◌≡◌ {A = ℕ} 0 1 = cc in absurd (omega arith)
all_fails p k (suc n) e = ⊎_elim (λ h. record { i = k; from = omega arith; below = omega arith; fails = h }) (λ h. on (all_fails p (suc k) n h)) (either_fails (p k) (all p (suc k) n) e)
  where
    on : Fails p (suc k) n → Fails p k (suc n)
    on f = record { i = f.i; from = omega (arith, f.from); below = omega (arith, f.below); fails = f.fails }

-- ---- things among others

module _ (a n m : ℕ) where
  pub among_says : among a n m ≡ true → Among a n m
  unfolding among
  among_says e = go (eqb n 0) refl e
    where
      go : (b : Bool) → eqb n 0 ≡ b → (b || leb (a + n) m) ≡ true → Among a n m
      go true q h k l = absurd (omega (arith, eqb-true n 0 q))
      go false q h k l = omega (arith, leb-true (a + n) m h)

  -- the last of them stands among them
  pub says_among : Among a n m → among a n m ≡ true
  unfolding among
  says_among f = go n refl
    where
      go : (j : ℕ) → n ≡ j → (eqb n 0 || leb (a + n) m) ≡ true
      go zero q = ap (λ (b : Bool). b || leb (a + n) m) (eq-eqb n 0 q)
      go (suc j) q =
          let h = f j (omega arith) in
          ap (λ (b : Bool). b || leb (a + n) m) (ne_eqb n 0 (λ z. omega arith)) ∙ le-leb (a + n) m (omega (arith, h))

  pub not_among : among a n m ≡ false → ¬ Among a n m
  not_among e f = let u : ◌≡◌ {A = Bool} true false = sym (says_among f) ∙ e in let z : ◌≡◌ {A = ℕ} 0 1 = cc in omega arith

-- the code's way through
module _ (a n m : ℕ) where
  pub among_none : n ≡ 0 → true ≡ among a n m
  unfolding among
  among_none h = sym (ap (λ (b : Bool). b || leb (a + n) m) (eq-eqb n 0 h))

  module _ (z : n ≡ 0 → ⊥) where
    pub among_short : m < n → false ≡ among a n m
    unfolding among
    among_short h = sym (ap (λ (b : Bool). b || leb (a + n) m) (ne_eqb n 0 z) ∙ lt-leb (a + n) m (omega arith))

    pub among_left : n ≤ m → leb a (m - n) ≡ among a n m
    unfolding among
    among_left h = go (dec_le a (m - n)) ∙ sym (ap (λ (b : Bool). b || leb (a + n) m) (ne_eqb n 0 z))
      where
        go : Dec (a ≤ m - n) → leb a (m - n) ≡ leb (a + n) m
        go (yes u) = le-leb a (m - n) u ∙ sym (le-leb (a + n) m (omega arith))
        go (no u) = lt-leb a (m - n) (omega arith) ∙ sym (lt-leb (a + n) m (omega arith))

-- ---- a test of records of kind 0

module _ (k : ℕ) (b : Bool) where
  pub zero_kind : k ≡ 0 → cond (eqb k 0) b true ≡ b
  zero_kind h = ap (λ (x : Bool). cond x b true) (eq-eqb k 0 h)

  pub other_kind : (k ≡ 0 → ⊥) → cond (eqb k 0) b true ≡ true
  other_kind h = ap (λ (x : Bool). cond x b true) (ne_eqb k 0 h)

  -- where it fails, the kind is 0
  kind_fails : cond (eqb k 0) b true ≡ false → (k ≡ 0) × (b ≡ false)
  kind_fails e = go (eqb k 0) refl e
    where
      go : (x : Bool) → eqb k 0 ≡ x → cond x b true ≡ false → (k ≡ 0) × (b ≡ false)
      go true q h = (eqb-true k 0 q, h)
      go false q h = let u : ◌≡◌ {A = ℕ} 0 1 = cc in absurd (omega arith)

-- a record of a tree: each way through
module _ (R : List ℕ) (f k : ℕ) where
  pub goes_missing : ltb (f + k) (record_rows R) ≡ false → false ≡ goes_in R f k
  unfolding goes_in
  goes_missing h = not_first _ h

  module _ (h : ltb (f + k) (record_rows R) ≡ true) where
    pub goes_other : (record_kind R (f + k) ≡ 0 → ⊥) → true ≡ goes_in R f k
    unfolding goes_in
    goes_other z = then_second h (sym (other_kind (record_kind R (f + k)) _ z))

    module _ (z : record_kind R (f + k) ≡ 0) where
      pub goes_out : ltb (f + record_yes R (f + k)) (record_rows R) ≡ false → false ≡ goes_in R f k
      unfolding goes_in
      goes_out y = then_second h (not_first _ y ∙ sym (zero_kind (record_kind R (f + k)) _ z))

      pub goes_both : ltb (f + record_yes R (f + k)) (record_rows R) ≡ true → {x : Bool} → x ≡ ltb (f + record_no R (f + k)) (record_rows R) → x ≡ goes_in R f k
      unfolding goes_in
      goes_both y n = then_second h (then_second y n ∙ sym (zero_kind (record_kind R (f + k)) _ z))

-- ---- no row points outside

abbrev at : ℕ → Row → ℕ
at j r = get_or r j 0

module _ (d Q P T R : List ℕ) where
  module _ (e : rows_in d Q P T R ≡ true) where
    pub questions_in : all (question_in d Q P) 0 (question_rows Q) ≡ true
    unfolding rows_in
    questions_in = first_of _ _ e

    pub patterns_in : all (pattern_in d P) 0 (pattern_rows P) ≡ true
    unfolding rows_in
    patterns_in = first_of _ _ (second_of (all (question_in d Q P) 0 (question_rows Q)) _ e)

    pub asks_in_lem : all (asks_in Q R) 0 (record_rows R) ≡ true
    unfolding rows_in
    asks_in_lem = first_of _ _ (second_of (all (pattern_in d P) 0 (pattern_rows P)) _ (second_of (all (question_in d Q P) 0 (question_rows Q)) _ e))

    pub trees_in : all (tree_in T R) 0 (tree_rows T) ≡ true
    unfolding rows_in
    trees_in = second_of (all (asks_in Q R) 0 (record_rows R)) _ (second_of (all (pattern_in d P) 0 (pattern_rows P)) _ (second_of (all (question_in d Q P) 0 (question_rows Q)) _ e))

    pub name_in : (q : ℕ) → q < question_rows Q → Among (question_start Q q) (question_len Q q) (length d)
    unfolding question_in
    name_in q h = among_says _ _ _ (first_of _ _ (all_each (question_in d Q P) 0 (question_rows Q) questions_in q (omega arith) (omega arith)))

    pub its_patterns_in : (q : ℕ) → q < question_rows Q → Among (question_first Q q) (question_patterns Q q) (pattern_rows P)
    unfolding question_in
    its_patterns_in q h = among_says _ _ _ (second_of (among (question_start Q q) (question_len Q q) (length d)) _ (all_each (question_in d Q P) 0 (question_rows Q) questions_in q (omega arith) (omega arith)))

    pub pattern_in_lem : (p : ℕ) → p < pattern_rows P → Among (pattern_start P p) (pattern_len P p) (length d)
    unfolding pattern_in
    pattern_in_lem p h = among_says _ _ _ (all_each (pattern_in d P) 0 (pattern_rows P) patterns_in p (omega arith) (omega arith))

    pub question_in_lem : (i : ℕ) → i < record_rows R → record_kind R i ≡ 0 → record_question R i < question_rows Q
    unfolding asks_in
    question_in_lem i h z = ltb-true _ _ (sym (zero_kind (record_kind R i) (question_there Q (record_question R i)) z) ∙ all_each (asks_in Q R) 0 (record_rows R) asks_in_lem i (omega arith) (omega arith))

    module _ (t k : ℕ) (h : t < tree_rows T) (l : k < tree_records T t) where
      goes : goes_in R (tree_first T t) k ≡ true
      unfolding tree_in
      goes = all_each (goes_in R (tree_first T t)) 0 (tree_records T t) (all_each (tree_in T R) 0 (tree_rows T) trees_in t (omega arith) (omega arith)) k (omega arith) (omega arith)

      pub record_in : tree_first T t + k < record_rows R
      unfolding goes_in
      record_in = ltb-true _ _ (first_of _ _ goes)

      module _ (z : record_kind R (tree_first T t + k) ≡ 0) where
        both_in : (ltb (tree_first T t + record_yes R (tree_first T t + k)) (record_rows R) && ltb (tree_first T t + record_no R (tree_first T t + k)) (record_rows R)) ≡ true
        unfolding goes_in
        both_in = sym (zero_kind (record_kind R (tree_first T t + k)) _ z) ∙ second_of (ltb (tree_first T t + k) (record_rows R)) _ goes

        pub yes_in : tree_first T t + record_yes R (tree_first T t + k) < record_rows R
        yes_in = ltb-true _ _ (first_of _ _ both_in)

        pub no_in : tree_first T t + record_no R (tree_first T t + k) < record_rows R
        no_in = ltb-true _ _ (second_of (ltb (tree_first T t + record_yes R (tree_first T t + k)) (record_rows R)) _ both_in)

    none_out : ¬ Outside d (question_table Q) (pattern_table P) (rows_from (text_row T) 0 (tree_rows T)) (record_table R)
    unfolding question_table pattern_table record_table
    none_out (name {i} {a} {n} h u) =
        let r = row_of (question_row Q) (question_rows Q) h in
        u (λ k l. omega (arith, name_in i r.0 k (omega (arith, ap (at 1) r.1)), ap (at 0) r.1))
    none_out (patterns {i} {a} {n} {f} {m} h u) =
        let r = row_of (question_row Q) (question_rows Q) h in
        u (λ k l. omega (arith, its_patterns_in i r.0 k (omega (arith, ap (at 3) r.1)), ap (at 2) r.1, length_from (pattern_row P) 0 (pattern_rows P)))
    none_out (pattern {i} {a} {n} h u) =
        let r = row_of (pattern_row P) (pattern_rows P) h in
        u (λ k l. omega (arith, pattern_in_lem i r.0 k (omega (arith, ap (at 1) r.1)), ap (at 0) r.1))
    none_out (records {i} {x} {f} {m} h u) =
        let r = row_of (text_row T) (tree_rows T) h in
        u (λ k l. omega (arith, record_in i k r.0 (omega (arith, ap (at 2) r.1)), ap (at 1) r.1, length_from (record_row R) 0 (record_rows R)))
    none_out (question {i} {q} h u) =
        let r = row_of (record_row R) (record_rows R) h in
        omega (arith, u, question_in_lem i r.0 (sym (ap (at 0) r.1)), ap (at 1) r.1, length_from (question_row Q) 0 (question_rows Q))
    none_out (goes_yes {i = i} {f = f} {k = k} {q = q} {y = y} {n = n} h l v u) =
        let r = row_of (text_row T) (tree_rows T) h in
        let w = row_of (record_row R) (record_rows R) v in
        let c : k < tree_records T i = omega (arith, ap (at 2) r.1) in
        let j : f + k ≡ tree_first T i + k = omega (arith, ap (at 1) r.1) in
        let s : (0 ∷ q ∷ y ∷ n ∷ []) ≡ record_row R (tree_first T i + k) = w.1 ∙ ap (record_row R) j in
        omega (arith, u, yes_in i k r.0 c (sym (ap (at 0) s)), ap (at 2) s, ap (at 1) r.1, length_from (record_row R) 0 (record_rows R))
    none_out (goes_no {i = i} {f = f} {k = k} {q = q} {y = y} {n = n} h l v u) =
        let r = row_of (text_row T) (tree_rows T) h in
        let w = row_of (record_row R) (record_rows R) v in
        let c : k < tree_records T i = omega (arith, ap (at 2) r.1) in
        let j : f + k ≡ tree_first T i + k = omega (arith, ap (at 1) r.1) in
        let s : (0 ∷ q ∷ y ∷ n ∷ []) ≡ record_row R (tree_first T i + k) = w.1 ∙ ap (record_row R) j in
        omega (arith, u, no_in i k r.0 c (sym (ap (at 0) s)), ap (at 3) s, ap (at 1) r.1, length_from (record_row R) 0 (record_rows R))

    pub none_outside : ¬ Outside d (question_table Q) (pattern_table P) (first_four (tree_table T)) (record_table R)
    none_outside o = none_out (subst (λ (x : List Row). Outside d (question_table Q) (pattern_table P) x (record_table R)) (text_rows T) o)

  -- ---- a row points outside

  abbrev Out : Type 0
  Out = Outside d (question_table Q) (pattern_table P) (rows_from (text_row T) 0 (tree_rows T)) (record_table R)

  -- a record of kind 0 as it stands in the table
  line_row : (i : ℕ) → i < record_rows R → record_kind R i ≡ 0 → Nth (record_table R) i (branch (record_question R i) (record_yes R i) (record_no R i))
  unfolding record_table
  line_row i h z =
      subst (λ (x : ℕ). Nth (rows_from (record_row R) 0 (record_rows R)) i (x ∷ record_question R i ∷ record_yes R i ∷ record_no R i ∷ [])) z (all_there (record_row R) (record_rows R) i h)

  question_out : Fails (question_in d Q P) 0 (question_rows Q) → Out
  unfolding question_table pattern_table question_in
  question_out f =
      let r = all_there (question_row Q) (question_rows Q) f.i (omega (arith, f.below)) in
      ⊎_elim (λ e. name r (not_among _ _ _ e))
      (λ e. patterns r (subst (λ (n : ℕ). ¬ Among (question_first Q f.i) (question_patterns Q f.i) n) (sym (length_from (pattern_row P) 0 (pattern_rows P))) (not_among _ _ _ e)))
      (either_fails _ _ f.fails)

  pattern_out : Fails (pattern_in d P) 0 (pattern_rows P) → Out
  unfolding pattern_table pattern_in
  pattern_out f = pattern (all_there (pattern_row P) (pattern_rows P) f.i (omega (arith, f.below))) (not_among _ _ _ f.fails)

  asks_out : Fails (asks_in Q R) 0 (record_rows R) → Out
  unfolding question_table asks_in
  asks_out f =
      let z = kind_fails (record_kind R f.i) (question_there Q (record_question R f.i)) f.fails in
      question (line_row f.i (omega (arith, f.below)) z.0) (omega (arith, ltb-false (record_question R f.i) (question_rows Q) z.1, length_from (question_row Q) 0 (question_rows Q)))

  record_out : (t k : ℕ) → t < tree_rows T → k < tree_records T t → goes_in R (tree_first T t) k ≡ false → Out
  unfolding record_table goes_in
  record_out t k h l e = go (ltb (tree_first T t + k) (record_rows R)) refl e
    where
      tree_row : Nth (rows_from (text_row T) 0 (tree_rows T)) t (text_row T t)
      tree_row = all_there (text_row T) (tree_rows T) t h

      many : length (rows_from (record_row R) 0 (record_rows R)) ≡ record_rows R
      many = length_from (record_row R) 0 (record_rows R)

      go : (b : Bool) → ltb (tree_first T t + k) (record_rows R) ≡ b
          → (b && cond (eqb (record_kind R (tree_first T t + k)) 0) (ltb (tree_first T t + record_yes R (tree_first T t + k)) (record_rows R) && ltb (tree_first T t + record_no R (tree_first T t + k)) (record_rows R)) true) ≡ false → Out
      go false q e = records tree_row (λ g. omega (arith, g k l, ltb-false (tree_first T t + k) (record_rows R) q, many))
      go true q e =
          let z = kind_fails (record_kind R (tree_first T t + k)) _ e in
          let r = line_row (tree_first T t + k) (ltb-true _ _ q) z.0 in
          ⊎_elim (λ u. goes_yes tree_row l r (omega (arith, ltb-false (tree_first T t + record_yes R (tree_first T t + k)) (record_rows R) u, many)))
          (λ u. goes_no tree_row l r (omega (arith, ltb-false (tree_first T t + record_no R (tree_first T t + k)) (record_rows R) u, many)))
          (either_fails _ _ z.1)

  tree_out : Fails (tree_in T R) 0 (tree_rows T) → Out
  unfolding tree_in
  tree_out f = let g = all_fails (goes_in R (tree_first T f.i)) 0 (tree_records T f.i) f.fails in record_out f.i g.i (omega (arith, f.below)) (omega (arith, g.below)) g.fails

  some_out : rows_in d Q P T R ≡ false → Out
  unfolding rows_in
  some_out e =
      ⊎_elim (λ u. question_out (all_fails _ _ _ u))
      (λ v. ⊎_elim (λ u. pattern_out (all_fails _ _ _ u)) (λ w. ⊎_elim (λ u. asks_out (all_fails _ _ _ u)) (λ u. tree_out (all_fails _ _ _ u)) (either_fails _ _ w)) (either_fails _ _ v))
      (either_fails _ _ e)

  pub some_outside : rows_in d Q P T R ≡ false → Outside d (question_table Q) (pattern_table P) (first_four (tree_table T)) (record_table R)
  some_outside e = subst (λ (x : List Row). Outside d (question_table Q) (pattern_table P) x (record_table R)) (sym (text_rows T)) (some_out e)
