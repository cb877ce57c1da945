-- Rows that pass the tests are those that linking makes of the text that is written.
use mathlib.Core.Path.{◌≡◌, refl, sym, ap, ap₂, ◌∙◌, subst}
use mathlib.Core.Bool.{Bool, true, false, cond, ◌&&◌, ◌||◌}
use mathlib.Core.List.Forall₂
use mathlib.Core.List.{List, [], ◌∷◌}
use Prim.Native.Nat.{ℕ, zero, suc, ◌+◌, ◌-◌, ◌≤◌, ◌<◌}
use native.Mathlib.Omega.{arith}
use borrow.Author.Tests.{leb-true, eqb-true}
use lib.Dec.{ltb, leb, eqb}
use lib.ListN.{length}
use Rattle.written.specs.Said.{pdf, Line, Body, lone, braces, Tree, Question}
use Rattle.written.specs.Linking.{Row, leaf, NotSingle, Single, Ascending, Records, pdfs}
use Rattle.written.specs.Tables.{LinesOf, TreeRows}
use Rattle.written.specs.Writing.{RowsSay, first_four}
use Rattle.laws.specs.Every.{all}
use Rattle.laws.proofs.Every.{first_of, second_of}
use Rattle.table_rows.specs.Rows.{question_rows, tree_rows, tree_state, tree_first, tree_records, tree_lines, record_rows, record_kind, record_question, record_pdf, record_row, rows_from, question_table, pattern_table, tree_table, record_table}
use Rattle.table_rows.proofs.Stand.{length_from}
use Rattle.write_parts.specs.Parts.{each, question_of, line_of, body_of, tree_of}
use Rattle.write_records.specs.Records.{of_record}
use Rattle.write_text.specs.Text.{text_of}
use Rattle.write_rows.specs.Tests.{rows_in}
use Rattle.write_rows.proofs.Four.{text_row, text_rows}
use Rattle.write_rows.proofs.Outside.{question_in_lem}
use Rattle.write_questions.specs.Tests.{questions_fit, last_named, none_hidden}
use Rattle.write_links.specs.Tests.{leaf_at, leaf_in, line_in, unlike, bare_in, lines_in, body_in, tree_in, grown, links_fit}
use Rattle.write_links.proofs.Ways.{tree_room}
use Rattle.shown_write.proofs.Questions.{rows_split, said_questions}
use Rattle.shown_write.proofs.Records.{each_long, leaf_is}
use Rattle.shown_write.proofs.Lines.{single_line, asked_last, not_single, lines_records}

pub none_single : NotSingle []
none_single r s = go (single_line s [] refl)
  where
    go : ((l : Line) × ([] ≡ l ∷ []) × (l.no ≡ r) × (l.yes ≡ r)) → ⊥
    go (l, q, a, b) = let u : ◌≡◌ {A = ℕ} 0 1 = ap length q in omega arith

module _ (d Q P R : List ℕ) where
  abbrev qs : List Question
  qs = each (question_of d Q P) 0 (question_rows Q)

  module _ (f m n : ℕ) (in_table : f + m ≤ record_rows R) (asks : (k : ℕ) → k < m → record_kind R (f + k) ≡ 0 → (record_question R (f + k) < question_rows Q) × (last_named d Q (record_question R (f + k)) ≡ true)) where
    abbrev Linked : Body → Type 0
    Linked b = Records qs b (rows_from (record_row R) f m) × LinesOf b n

    empty_linked : n ≡ 0 → m ≡ 0 → Linked (braces [])
    unfolding rows_from pdfs
    empty_linked u v = (
      subst (λ (i : ℕ). Records qs (braces []) (rows_from (record_row R) f i)) (sym v) (Records.lines [] none_single Ascending.none (λ x. refl) Forall₂.nil refl),
      subst (LinesOf (braces [])) (sym u) (LinesOf.lines none_single),
    )

    leaf_linked : n ≡ 0 → m ≡ 1 → leaf_at R f 0 ≡ true → Linked (lone (pdf (of_record record_pdf R f 0)))
    unfolding rows_from
    leaf_linked u v t =
        let z : f + 0 ≡ f = omega arith in
        let e : leaf (of_record record_pdf R f 0) ≡ record_row R f = sym (leaf_is R f m 0 in_table (omega arith) 0 (omega arith) t) ∙ ap (record_row R) z in (
          subst (λ (i : ℕ). Records qs (lone (pdf (of_record record_pdf R f 0))) (rows_from (record_row R) f i)) (sym v)
              (subst (λ (x : Row). Records qs (lone (pdf (of_record record_pdf R f 0))) (x ∷ [])) e (Records.single Single.alone)),
          subst (LinesOf (lone (pdf (of_record record_pdf R f 0)))) (sym u) (LinesOf.single Single.alone),
        )

    lines_linked : lines_in R f m n ≡ true → Linked (braces (each (line_of d Q R f n) 0 n))
    unfolding lines_in
    lines_linked t =
        let few = leb-true n m (first_of _ _ t) in
        let t₁ = second_of (leb n m) _ t in
        let one = first_of (unlike R f n) _ t₁ in
        let t₂ = second_of (unlike R f n) _ t₁ in
        let lines = first_of (all (line_in R f m n) 0 n) _ t₂ in
        let t₃ = second_of (all (line_in R f m n) 0 n) _ t₂ in
        let leaves = first_of (all (leaf_in R f n) n (m - n)) _ t₃ in
        let counts = second_of (all (leaf_in R f n) n (m - n)) _ t₃ in (
          lines_records d Q P R f m n in_table few asks leaves lines one counts,
          subst (LinesOf (braces (each (line_of d Q R f n) 0 n))) (each_long (line_of d Q R f n) 0 n) (LinesOf.lines (not_single d Q P R f m n in_table few asks leaves lines one)),
        )

    body_linked : body_in R f m n ≡ true → Linked (body_of d Q R f m n)
    unfolding body_in body_of bare_in
    body_linked t = go (eqb n 0) (eqb m 0) refl refl t
      where
        go : (a b : Bool) → eqb n 0 ≡ a → eqb m 0 ≡ b → cond a (b || (eqb m 1 && leaf_at R f 0)) (lines_in R f m n) ≡ true
            → Linked (cond a (cond b (braces []) (lone (pdf (of_record record_pdf R f 0)))) (braces (each (line_of d Q R f n) 0 n)))
        go true true u v t = empty_linked (eqb-true n 0 u) (eqb-true m 0 v)
        go true false u v t = leaf_linked (eqb-true n 0 u) (eqb-true m 1 (first_of _ _ t)) (second_of (eqb m 1) _ t)
        go false b u v t = lines_linked t

-- what the test of one tree says
pub tree_says : (T R : List ℕ) (k t : ℕ) → tree_in T R k t ≡ true → (tree_first T t ≡ k) × (body_in R (tree_first T t) (tree_records T t) (tree_lines T t) ≡ true)
unfolding tree_in
tree_says T R k t e =
    let u = second_of (ltb (tree_state T t) 9223372036854775808) _ e in
    (eqb-true (tree_first T t) k (first_of _ _ u), second_of (leb (k + tree_records T t) (record_rows R)) _ (second_of (eqb (tree_first T t) k) _ u))

module _ (d Q P T R : List ℕ) (inside : rows_in d Q P T R ≡ true) (final : none_hidden d Q R ≡ true) where
  -- what a record of kind 0 asks
  pub asks_so : (i : ℕ) → i < record_rows R → record_kind R i ≡ 0 → (record_question R i < question_rows Q) × (last_named d Q (record_question R i) ≡ true)
  asks_so i h z = let l = question_in_lem d Q P T R inside i h z in (l, asked_last d Q R final i h z l)

  rows_as : {k : ℕ} {ts : List Tree} {A B M N : List Row} → A ≡ B → M ≡ N → TreeRows (qs d Q P R) k ts A M → TreeRows (qs d Q P R) k ts B N
  rows_as {k} {ts} {A} {B} {M} {N} u v w = subst (λ (x : List Row). TreeRows (qs d Q P R) k ts x N) u (subst (λ (x : List Row). TreeRows (qs d Q P R) k ts A x) v w)

  trees_say : (t k j : ℕ) → k ≤ record_rows R → grown T R k t j ≡ true
      → TreeRows (qs d Q P R) k (each (tree_of d Q T R) t j) (rows_from (text_row T) t j) (rows_from (record_row R) k (record_rows R - k))
  unfolding each rows_from grown
  trees_say t k zero l e =
      let z : 0 ≡ record_rows R - k = omega (arith, eqb-true k (record_rows R) e) in
      subst (λ (i : ℕ). TreeRows (qs d Q P R) k [] [] (rows_from (record_row R) k i)) z TreeRows.none
  trees_say t k (suc j) l e = made (trees_say (suc t) (k + tree_records T t) j room (second_of (tree_in T R k t) _ e))
    where
      grew : tree_in T R k t ≡ true
      grew = first_of _ _ e

      room : k + tree_records T t ≤ record_rows R
      room = tree_room T R k t grew

      parts : (tree_first T t ≡ k) × (body_in R (tree_first T t) (tree_records T t) (tree_lines T t) ≡ true)
      parts = tree_says T R k t grew

      own : List Row
      own = rows_from (record_row R) k (tree_records T t)

      many : length own ≡ tree_records T t
      many = length_from (record_row R) k (tree_records T t)

      rest : List Row
      rest = rows_from (record_row R) (k + tree_records T t) (record_rows R - (k + tree_records T t))

      linked : Records (qs d Q P R) (body_of d Q R (tree_first T t) (tree_records T t) (tree_lines T t)) (rows_from (record_row R) (tree_first T t) (tree_records T t))
          × LinesOf (body_of d Q R (tree_first T t) (tree_records T t) (tree_lines T t)) (tree_lines T t)
      linked =
          body_linked d Q P R (tree_first T t) (tree_records T t) (tree_lines T t) (omega (arith, parts.0, room))
          (λ i h z. asks_so (tree_first T t + i) (omega (arith, parts.0, room)) z) parts.1

      made : TreeRows (qs d Q P R) (k + tree_records T t) (each (tree_of d Q T R) (suc t) j) (rows_from (text_row T) (suc t) j) rest
          → TreeRows (qs d Q P R) k (tree_of d Q T R t ∷ each (tree_of d Q T R) (suc t) j) (text_row T t ∷ rows_from (text_row T) (suc t) j) (rows_from (record_row R) k (record_rows R - k))
      made w =
          let c : k + tree_records T t ≡ k + length own = omega (arith, many) in
          let z : tree_records T t + (record_rows R - (k + tree_records T t)) ≡ record_rows R - k = omega (arith, room) in
          rows_as
          (ap₂ (λ (f m : ℕ). (tree_state T t ∷ f ∷ m ∷ tree_lines T t ∷ []) ∷ rows_from (text_row T) (suc t) j) (sym parts.0) many)
          (sym (rows_split (record_row R) k (tree_records T t) (record_rows R - (k + tree_records T t))) ∙ ap (rows_from (record_row R) k) z)
          (TreeRows.more refl
          (subst (λ (i : ℕ). Records (qs d Q P R) (body_of d Q R (tree_first T t) (tree_records T t) (tree_lines T t)) (rows_from (record_row R) i (tree_records T t))) parts.0 linked.0) linked.1
          (subst (λ (i : ℕ). TreeRows (qs d Q P R) i (each (tree_of d Q T R) (suc t) j) (rows_from (text_row T) (suc t) j) rest) c w))

  -- the tree rows and records that pass say the text's trees
  pub said_trees : grown T R 0 0 (tree_rows T) ≡ true → TreeRows (qs d Q P R) 0 (each (tree_of d Q T R) 0 (tree_rows T)) (first_four (tree_table T)) (record_table R)
  unfolding record_table
  said_trees e =
      let z : record_rows R - 0 ≡ record_rows R = omega arith in
      rows_as (sym (text_rows T)) (ap (rows_from (record_row R) 0) z) (trees_say 0 0 (tree_rows T) (omega arith) e)

-- rows that pass 24 and 17 say the text that is written
pub rows_say : (d Q P T R : List ℕ) → rows_in d Q P T R ≡ true → links_fit d Q P T R ≡ true
    → RowsSay d (question_table Q) (pattern_table P) (first_four (tree_table T)) (record_table R) (text_of d Q P T R)
unfolding text_of links_fit
rows_say d Q P T R inside e =
    let t = second_of (ltb 0 (tree_rows T)) _ e in
    let u = second_of (questions_fit Q P) _ t in
    record {
      questions = said_questions d Q P T R inside (first_of _ _ t);
      trees = said_trees d Q P T R inside (second_of (grown T R 0 0 (tree_rows T)) _ u) (first_of _ _ u);
    }
