-- Loops over rows, and the bytes of a question, a tree's body and a tree by their numbers.
use mathlib.Core.Path.{◌≡◌, refl, sym, ap, ap₂, ◌∙◌}
use mathlib.Core.Bool.{Bool, cond}
use mathlib.Core.List.{List, [], ◌∷◌, ◌++◌, map, flatten, append-nil, append_assoc}
use Prim.Native.Nat.{ℕ, zero, suc, ◌+◌, ◌-◌, ◌≤◌, ◌<◌}
use native.Mathlib.Omega.{arith}
use borrow.Author.Tests.{lt-ltb, le-ltb, eq-eqb, ne_eqb}
use lib.Dec.{ltb, eqb}
use Rattle.written.specs.Bytes.{newline, quote, comma, bracket, unbracket, brace, unbrace}
use Rattle.written.specs.Said.{pdf, lone, braces}
use Rattle.written.specs.TreeText.{QS, star}
use Rattle.written.specs.Writing.{figures, spelled_ref, spelled_line, spelled_patterns, spelled_question, spelled_body, spelled_tree}
use Rattle.link_order.specs.Keys.{name_at}
use Rattle.table_rows.specs.Rows.{question_first, question_patterns, tree_state, tree_first, tree_records, tree_lines, record_pdf}
use Rattle.write_parts.proofs.Laws.{each_more, each_done}
use Rattle.write_parts.specs.Parts.{each, pattern_of, quoted, question_of, line_of, body_of, tree_of}
use Rattle.write_records.specs.Records.{of_record}

-- ---- things by their number

module _ {A : Type 0} (g : ℕ → A) (k n : ℕ) where
  module _ (w : A → List ℕ) where
    pub flat_more : k < n → flatten (map w (each g k (n - k))) ≡ w (g k) ++ flatten (map w (each g (k + 1) (n - (k + 1))))
    unfolding flatten
    flat_more h = ap (λ (l : List A). flatten (map w l)) (each_more g k n h)

    pub flat_done : n ≤ k → flatten (map w (each g k (n - k))) ≡ []
    unfolding flatten
    flat_done h = ap (λ (l : List A). flatten (map w l)) (each_done g k n h)

-- ---- patterns

module _ (g : ℕ → List ℕ) (k n : ℕ) where
  pub patterns_more : k < n → spelled_patterns (each g k (n - k)) ≡ quoted (g k) (ltb (k + 1) n) ++ spelled_patterns (each g (k + 1) (n - (k + 1)))
  unfolding spelled_patterns each
  patterns_more h = ap spelled_patterns (each_more g k n h) ∙ go (n - (k + 1)) refl
    where
      go : (m : ℕ) → n - (k + 1) ≡ m → spelled_patterns (g k ∷ each g (k + 1) m) ≡ quoted (g k) (ltb (k + 1) n) ++ spelled_patterns (each g (k + 1) m)
      go zero e = sym (append-nil (quoted (g k) (ltb (k + 1) n)) ∙ ap (quoted (g k)) (le-ltb (k + 1) n (omega arith)))
      go (suc m) e =
          sym (ap (λ (x : Bool). quoted (g k) x ++ spelled_patterns (each g (k + 1) (suc m))) (lt-ltb (k + 1) n (omega arith))
          ∙ ap (λ (l : List ℕ). quote ∷ l) (append_assoc (g k) (quote ∷ comma ∷ 32 ∷ []) (spelled_patterns (each g (k + 1) (suc m)))))

  pub patterns_done : n ≤ k → spelled_patterns (each g k (n - k)) ≡ []
  unfolding spelled_patterns
  patterns_done h = ap spelled_patterns (each_done g k n h)

pub all_patterns : (g : ℕ → List ℕ) (n : ℕ) → spelled_patterns (each g 0 n) ≡ spelled_patterns (each g 0 (n - 0))
all_patterns g n = let e : n ≡ n - 0 = omega arith in ap (λ (j : ℕ). spelled_patterns (each g 0 j)) e

-- ---- a question

module _ (d Q P : List ℕ) (q : ℕ) where
  abbrev as_bytes : ℕ → ℕ → List ℕ
  as_bytes f n = QS ++ (32 ∷ (name_at d Q q ++ (32 ∷ brace ∷ 32 ∷ (spelled_patterns (each (pattern_of d P f) 0 n) ++ (32 ∷ unbrace ∷ newline ∷ [])))))

  pub question_bytes : {f n : ℕ} → f ≡ question_first Q q → n ≡ question_patterns Q q → as_bytes f n ≡ spelled_question (question_of d Q P q)
  unfolding spelled_question
  question_bytes u v = ap₂ as_bytes u v

-- ---- a tree

module _ (d Q R : List ℕ) (f : ℕ) where
  pub body_empty : (m n : ℕ) → n ≡ 0 → m ≡ 0 → brace ∷ newline ∷ unbrace ∷ [] ≡ spelled_body (body_of d Q R f m n)
  unfolding body_of flatten
  body_empty m n u v = sym (ap spelled_body (ap (λ (x : Bool). cond x (cond (eqb m 0) (braces []) (lone (pdf (of_record record_pdf R f 0)))) (braces (each (line_of d Q R f n) 0 n))) (eq-eqb n 0 u)
      ∙ ap (λ (x : Bool). cond x (braces []) (lone (pdf (of_record record_pdf R f 0)))) (eq-eqb m 0 v)))

  pub body_leaf : (m n : ℕ) → n ≡ 0 → (m ≡ 0 → ⊥) → spelled_ref (pdf (of_record record_pdf R f 0)) ≡ spelled_body (body_of d Q R f m n)
  unfolding body_of
  body_leaf m n u v = sym (ap spelled_body (ap (λ (x : Bool). cond x (cond (eqb m 0) (braces []) (lone (pdf (of_record record_pdf R f 0)))) (braces (each (line_of d Q R f n) 0 n))) (eq-eqb n 0 u)
      ∙ ap (λ (x : Bool). cond x (braces []) (lone (pdf (of_record record_pdf R f 0)))) (ne_eqb m 0 v)))

  pub body_lines : (m n : ℕ) → (n ≡ 0 → ⊥) → brace ∷ newline ∷ (flatten (map spelled_line (each (line_of d Q R f n) 0 n)) ++ (unbrace ∷ [])) ≡ spelled_body (body_of d Q R f m n)
  unfolding body_of
  body_lines m n u = sym (ap spelled_body (ap (λ (x : Bool). cond x (cond (eqb m 0) (braces []) (lone (pdf (of_record record_pdf R f 0)))) (braces (each (line_of d Q R f n) 0 n))) (ne_eqb n 0 u)))

module _ (d Q T R : List ℕ) (t : ℕ) where
  abbrev tree_bytes : ℕ → ℕ → ℕ → ℕ → List ℕ
  tree_bytes x f m n = star ++ (32 ∷ bracket ∷ (figures x ++ (unbracket ∷ 32 ∷ (spelled_body (body_of d Q R f m n) ++ (newline ∷ [])))))

  pub tree_bytes_lem : {x f m n : ℕ} → x ≡ tree_state T t → f ≡ tree_first T t → m ≡ tree_records T t → n ≡ tree_lines T t → tree_bytes x f m n ≡ spelled_tree (tree_of d Q T R t)
  unfolding spelled_tree
  tree_bytes_lem {x} {f} {m} {n} u v w z =
      ap (λ (i : ℕ). tree_bytes i f m n) u ∙ ap (λ (i : ℕ). tree_bytes (tree_state T t) i m n) v ∙ ap₂ (tree_bytes (tree_state T t) (tree_first T t)) w z
