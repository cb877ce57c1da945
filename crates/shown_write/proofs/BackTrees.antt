-- Rows that some text reads back to pass the tests of 17: so a refusal with 17 says that there is no such text.
use mathlib.Core.Path.{◌≡◌, refl, sym, ap, ap₂, ◌∙◌, subst}
use mathlib.Core.Bool.{Bool, true, false, not, cond, ◌&&◌, ◌||◌}
use mathlib.Core.List.{List, [], ◌∷◌, map, Forall₂}
use Prim.Native.Nat.{ℕ, suc, ◌+◌, ◌-◌, ◌^◌, ◌≤◌, ◌<◌}
use native.Mathlib.Decide.{ℕ_discrete}
use native.Mathlib.Omega.{arith}
use borrow.Author.Tests.{lt-ltb, le-leb, eq-eqb, ne_eqb}
use lib.Dec.{eqb}
use lib.IntN.{ℤ, pos}
use lib.ListN.{length, get_or, length-append, length-map}
use Rattle.written.specs.Said.{Body, Tree, Question}
use Rattle.written.specs.Linking.{Nth, here, there, LastQuestion, Row, leaf, LineRow, ToFirst, Records}
use Rattle.written.specs.Tables.{LinesOf, TreeRows}
use Rattle.written.specs.Writing.{Spells, QuestionsSay, ReadBack, first_four}
use Rattle.written.proofs.ModelOnce.{lines_once}
use Rattle.written_back.proofs.Spelled.{All, Fits, BodyFits, TreeFits, QuestionFits}
use Rattle.written_back.proofs.Plain.{nth_inside, says_fits, leaf-fits}
use Rattle.written_back.proofs.OneText.{paired_long, no_lines}
use Rattle.written_back.proofs.Inside.{spells_among, asks_last}
use Rattle.laws.specs.Every.{all}
use Rattle.laws.proofs.Every.{both, each_all}
use Rattle.link_order.specs.Keys.{name_at}
use Rattle.table_rows.specs.Rows.{question_rows, question_start, question_len, question_row, tree_rows, tree_state, tree_first, tree_records, record_rows, record_kind, record_question, record_pdf, record_yes, record_no, record_row, rows_from, question_table, pattern_table, tree_table, record_table}
use Rattle.table_rows.proofs.Stand.{length_from, row_there, nth_at}
use Rattle.write_records.specs.Records.{of_record}
use Rattle.write_records.proofs.Laws.{record_says}
use Rattle.write_rows.proofs.Four.{text_row, text_rows}
use Rattle.write_questions.proofs.HiddenNames.{not_same}
use Rattle.write_questions.specs.Tests.{unlike_name, last_named, asks_other, not_hidden, none_hidden}
use Rattle.write_links.specs.Tests.{leaf_at, bare_in, lines_in, body_in, tree_in, grown, links_fit}
use Rattle.shown_write.proofs.Questions.{name_is}
use Rattle.shown_write.proofs.Back.{cons_rows, part_rows, questions_pass}
use Rattle.shown_write.proofs.BackLines.{lines_pass}

abbrev at : ℕ → Row → ℕ
at j r = get_or r j 0

-- ---- a body

module _ (R : List ℕ) (f : ℕ) where
  leaf_back : {x : ℕ} {rows : List Row} → rows ≡ leaf x ∷ [] → rows ≡ rows_from (record_row R) f (length rows) → f + length rows ≤ record_rows R → x < 2 ^ 63 → body_in R f (length rows) 0 ≡ true
  unfolding body_in bare_in leaf_at
  leaf_back {x} {rows} u e h s =
      let one : length rows ≡ 1 = ap length u in
      let c = cons_rows (record_row R) f (length rows) (sym u ∙ e) in
      let z : f ≡ f + 0 = omega arith in
      let says : (field : List ℕ → ℕ → ℕ) → of_record field R f 0 ≡ field R f =
      λ field. sym (record_says field R f 0 (lt-ltb (f + 0) (record_rows R) (omega arith)) (ap (field R) z)) in
      ap (λ (i : ℕ). eqb i 0 || (eqb i 1 && leaf_at R f 0)) one
      ∙ both (eq-eqb (of_record record_kind R f 0) 1 (says record_kind ∙ sym (ap (at 0) c.head)))
      (both (lt-ltb (of_record record_pdf R f 0) 9223372036854775808 (omega (arith, says record_pdf, ap (at 1) c.head)))
      (both (eq-eqb (of_record record_yes R f 0) 0 (says record_yes ∙ sym (ap (at 2) c.head))) (eq-eqb (of_record record_no R f 0) 0 (says record_no ∙ sym (ap (at 3) c.head)))))

  body_back : {qs : List Question} {b : Body} {rows : List Row} {m : ℕ} → Records qs b rows → LinesOf b m → BodyFits b → rows ≡ rows_from (record_row R) f (length rows) → f + length rows ≤ record_rows R
      → body_in R f (length rows) m ≡ true
  unfolding body_in bare_in
  body_back (Records.single b) l g e h = ap (body_in R f 1) (lines_once l (LinesOf.single b)) ∙ leaf_back refl e h (leaf-fits b g)
  body_back {qs = qs} {m = m} (Records.lines {ls = ls} {rows = rows} {front = front} leaves ns asc tm fr q) l g e h = go (ℕ_discrete m 0)
    where
      many : m ≡ length ls
      many = lines_once l (LinesOf.lines ns)

      long : length rows ≡ length ls + length leaves
      long = ap length q ∙ length-append front (map leaf leaves) ∙ ap₂ ◌+◌ (paired_long fr) (length-map leaves leaf)

      parts : (front ≡ rows_from (record_row R) f m) × (map leaf leaves ≡ rows_from (record_row R) (f + m) (length rows - m))
      parts =
          let p = part_rows (record_row R) f (length rows) front (sym q ∙ e) in
          let c : length front ≡ m = paired_long fr ∙ sym many in
          (p.front ∙ ap (rows_from (record_row R) f) c, p.back ∙ ap₂ (rows_from (record_row R)) (ap (λ (i : ℕ). f + i) c) (ap (λ (i : ℕ). length rows - i) c))

      go : Dec (m ≡ 0) → cond (eqb m 0) (bare_in R f (length rows)) (lines_in R f (length rows) m) ≡ true
      go (yes z) =
          ap (λ (b : Bool). cond b (bare_in R f (length rows)) (lines_in R f (length rows) m)) (eq-eqb m 0 z)
          ∙ ap (λ (b : Bool). b || (eqb (length rows) 1 && leaf_at R f 0)) (eq-eqb (length rows) 0 (no_lines ns (Records.lines leaves ns asc tm fr q) (sym many ∙ z)))
      go (no z) =
          ap (λ (b : Bool). cond b (bare_in R f (length rows)) (lines_in R f (length rows) m)) (ne_eqb m 0 z)
          ∙ lines_pass (record {
            many = many;
            few = omega (arith, long, many);
            in_table = h;
            unlike_one = ns;
            ascending = asc;
            counts = tm;
            front = subst (Forall₂ (LineRow qs (ToFirst ls leaves)) ls) parts.0 fr;
            back = parts.1;
            fits = g;
          })

-- ---- trees one behind the other

module _ (T R : List ℕ) where
  state_small : {x : ℤ} {n : ℕ} → x ≡ pos n → Fits x → n < 2 ^ 63
  state_small e f = subst Fits e f

  tree_back : (k t m : ℕ) {s n : ℕ} → s ∷ k ∷ m ∷ n ∷ [] ≡ text_row T t → s < 2 ^ 63 → k + m ≤ record_rows R → body_in R k m n ≡ true → tree_in T R k t ≡ true
  unfolding tree_in
  tree_back k t m {s} {n} e l h b =
      both (lt-ltb (tree_state T t) 9223372036854775808 (omega (arith, ap (at 0) e)))
      (both (eq-eqb (tree_first T t) k (sym (ap (at 1) e)))
      (both (le-leb (k + tree_records T t) (record_rows R) (omega (arith, ap (at 2) e)))
      (sym (ap (λ (r : Row). body_in R (at 1 r) (at 2 r) (at 3 r)) e) ∙ b)))

  trees_back : {qs : List Question} {k : ℕ} {ts : List Tree} {A B : List Row} → TreeRows qs k ts A B → (t n : ℕ) → A ≡ rows_from (text_row T) t n → B ≡ rows_from (record_row R) k (record_rows R - k)
      → k ≤ record_rows R → All TreeFits ts → grown T R k t n ≡ true
  unfolding grown
  trees_back {k = k} TreeRows.none t n e g l f =
      let z : n ≡ 0 = omega (arith, ap length e, length_from (text_row T) t n) in
      ap (grown T R k t) z ∙ eq-eqb k (record_rows R) (omega (arith, ap length g, length_from (record_row R) k (record_rows R - k)))
  trees_back {k = k} (TreeRows.more {n = s} {m = m} {rows = rows} a r b w) t n e g l (All.more x f) =
      let c = cons_rows (text_row T) t n e in
      let p = part_rows (record_row R) k (record_rows R - k) rows g in
      let q : record_rows R - k - length rows ≡ record_rows R - (k + length rows) = omega arith in
      let u = tree_back k t (length rows) c.head (state_small a x.state) (omega (arith, p.within)) (body_back R k r b x.body p.front (omega (arith, p.within))) in
      let v = trees_back w (suc t) c.j c.tail (p.back ∙ ap (rows_from (record_row R) (k + length rows)) q) (omega (arith, p.within)) f in
      let z : k + length rows ≡ k + tree_records T t = ap (λ (i : ℕ). k + i) (ap (at 2) c.head) in
      ap (grown T R k t) c.count ∙ both u (ap (λ (i : ℕ). grown T R i (suc t) c.j) (sym z) ∙ v)

trees_many : {qs : List Question} {k : ℕ} {ts : List Tree} {A B : List Row} → TreeRows qs k ts A B → length A ≡ length ts
trees_many TreeRows.none = refl
trees_many (TreeRows.more a r b w) = ap suc (trees_many w)

-- ---- names

module _ (d Q : List ℕ) where
  -- the names of the questions that the rows say
  names_from : {k : ℕ} {A P : List Row} {qs : List Question} → QuestionsSay d k A P qs → All QuestionFits qs → (q n : ℕ) → q + n ≡ question_rows Q → A ≡ rows_from (question_row Q) q n
      → {j : ℕ} {x : Question} → Nth qs j x → x.name ≡ name_at d Q (q + j)
  names_from QuestionsSay.none f q n s e h = absurd (omega (arith, nth_inside h))
  names_from (QuestionsSay.more {w = w} a p y) (All.more g f) q n s e here =
      let c = cons_rows (question_row Q) q n e in
      let l : q < question_rows Q = omega (arith, c.count) in
      let u : Spells d (question_start Q q) (question_len Q q) w = subst (λ (r : Row). Spells d (at 0 r) (at 1 r) w) c.head a in
      let z : q ≡ q + 0 = omega arith in
      sym u.bytes_of ∙ name_is d Q q l (spells_among d u) (omega (arith, u.all_there, g.named)) ∙ ap (name_at d Q) z
  names_from (QuestionsSay.more a p y) (All.more g f) q n s e (there {k = j} h) =
      let c = cons_rows (question_row Q) q n e in
      let z : suc q + j ≡ q + suc j = omega arith in
      names_from y f (suc q) c.j (omega (arith, c.count)) c.tail h ∙ ap (name_at d Q) z

  questions_many : {k : ℕ} {A P : List Row} {qs : List Question} → QuestionsSay d k A P qs → length A ≡ length qs
  questions_many QuestionsSay.none = refl
  questions_many (QuestionsSay.more a p y) = ap suc (questions_many y)

  module _ (P R : List ℕ) {qs : List Question} (s : QuestionsSay d 0 (question_table Q) (pattern_table P) qs) (f : All QuestionFits qs) where
    many : length qs ≡ question_rows Q
    unfolding question_table
    many = sym (questions_many s) ∙ length_from (question_row Q) 0 (question_rows Q)

    name_of : {j : ℕ} {x : Question} → Nth qs j x → x.name ≡ name_at d Q j
    unfolding question_table
    name_of {j} h = let z : 0 + j ≡ j = omega arith in names_from s f 0 (question_rows Q) (omega arith) refl h ∙ ap (name_at d Q) z

    -- the last of its name, by the names
    last_so : {w : List ℕ} {q : ℕ} → LastQuestion qs w q → last_named d Q q ≡ true
    unfolding last_named unlike_name
    last_so {w} {q} u =
        each_all (unlike_name d Q q) (q + 1) (question_rows Q - (q + 1))
        (λ m a b. ap not (not_same (name_at d Q m) (name_at d Q q) (λ e. later m (omega arith) (omega arith) e)))
      where
        later : (m : ℕ) → q < m → m < question_rows Q → name_at d Q m ≡ name_at d Q q → ⊥
        later m a b e =
            let x = get_or qs m u.at in
            let h : Nth qs m x = nth_at qs m u.at (omega (arith, many)) in
            u.after m x a h (name_of h ∙ e ∙ sym (name_of u.stands) ∙ u.true_of)

    -- no hidden question is asked
    pub names_pass : {ts : List Tree} {A : List Row} → TreeRows qs 0 ts A (record_table R) → none_hidden d Q R ≡ true
    unfolding none_hidden not_hidden asks_other
    names_pass r = each_all (not_hidden d Q R) 0 (question_rows Q) (λ q a b. go q (last_named d Q q) refl)
      where
        asked : (i : ℕ) → i < record_rows R → record_kind R i ≡ 0 → last_named d Q (record_question R i) ≡ true
        asked i h z =
            last_so (asks_last r (subst (λ (k : ℕ). Nth (record_table R) i (k ∷ record_question R i ∷ record_yes R i ∷ record_no R i ∷ [])) z (row_there R i h))).1

        other : (q : ℕ) → last_named d Q q ≡ false → (i : ℕ) → i < record_rows R → not (eqb (record_kind R i) 0 && eqb (record_question R i) q) ≡ true
        other q e i h = pick (ℕ_discrete (record_kind R i) 0) (ℕ_discrete (record_question R i) q)
          where
            pick : Dec (record_kind R i ≡ 0) → Dec (record_question R i ≡ q) → not (eqb (record_kind R i) 0 && eqb (record_question R i) q) ≡ true
            pick (yes u) (yes v) = let z : ◌≡◌ {A = Bool} true false = sym (asked i h u) ∙ ap (last_named d Q) v ∙ e in let w : ◌≡◌ {A = ℕ} 0 1 = cc in absurd (omega arith)
            pick (yes u) (no v) = ap (λ (b : Bool). not (b && eqb (record_question R i) q)) (eq-eqb (record_kind R i) 0 u) ∙ ap not (ne_eqb (record_question R i) q v)
            pick (no u) v = ap (λ (b : Bool). not (b && eqb (record_question R i) q)) (ne_eqb (record_kind R i) 0 u)

        go : (q : ℕ) (b : Bool) → last_named d Q q ≡ b → (last_named d Q q || all (asks_other R q) 0 (record_rows R)) ≡ true
        go q true e = ap (λ (b : Bool). b || all (asks_other R q) 0 (record_rows R)) e
        go q false e = ap (λ (b : Bool). b || all (asks_other R q) 0 (record_rows R)) e ∙ each_all (asks_other R q) 0 (record_rows R) (λ i a h. other q e i (omega arith))

-- ---- all of 17

pub read_back_passes : (d Q P T R : List ℕ) → ReadBack d (question_table Q) (pattern_table P) (first_four (tree_table T)) (record_table R) → links_fit d Q P T R ≡ true
unfolding links_fit record_table
read_back_passes d Q P T R x =
    let f = says_fits x.says in
    let z : record_rows R ≡ record_rows R - 0 = omega arith in
    let long : tree_rows T ≡ length x.t.trees = sym (length_from (text_row T) 0 (tree_rows T)) ∙ sym (ap length (text_rows T)) ∙ trees_many x.rows.trees in
    both (lt-ltb 0 (tree_rows T) (omega (arith, long, f.some_tree)))
    (both (questions_pass d Q P x.rows.questions f.questions)
    (both (trees_back T R x.rows.trees 0 (tree_rows T) (text_rows T) (ap (rows_from (record_row R) 0) z) (omega arith) f.trees)
    (names_pass d Q P R x.rows.questions f.questions x.rows.trees)))
