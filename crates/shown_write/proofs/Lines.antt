-- The lines of a tree that pass the tests: the records that linking makes of the lines that are written.
use mathlib.Core.Path.{◌≡◌, refl, sym, ap, ap₂, ◌∙◌, subst}
use mathlib.Core.Bool.{true, ◌&&◌}
use mathlib.Core.Logic.{⊎_elim}
use mathlib.Core.List.{List, [], ◌∷◌, ◌++◌, Forall₂}
use Prim.Native.Nat.{ℕ, zero, suc, ◌+◌, ◌-◌, ◌≤◌, ◌<◌}
use native.Mathlib.Decide.{dec_lt}
use native.Mathlib.Omega.{arith}
use borrow.Author.Tests.{eq-eqb, eqb-true}
use lib.Dec.{eqb}
use lib.IntN.{ℤ, pos, negsuc, neg_ℤ}
use lib.ListN.{length}
use Rattle.written.specs.Bytes.{same}
use Rattle.written.specs.Said.{Ref, node, pdf, Line, Body, braces, Question}
use Rattle.written.specs.Linking.{Nth, LastLine, LastQuestion, Row, branch, LineRow, ToFirst, pdf_of, pdfs, times, Single, NotSingle, Records}
use Rattle.laws.specs.Every.{all}
use Rattle.laws.proofs.Every.{first_of, second_of, all_each}
use Rattle.link_order.specs.Keys.{name_at}
use Rattle.table_rows.specs.Rows.{question_rows, record_rows, record_kind, record_question, record_pdf, record_yes, record_no, record_row, rows_from}
use Rattle.write_parts.specs.Parts.{each, ref_of, line_of, question_of}
use Rattle.write_records.specs.Records.{of_record}
use Rattle.write_parts.proofs.Laws.{ref_line, ref_leaf}
use Rattle.write_questions.proofs.HiddenNames.{same_same}
use Rattle.write_questions.specs.Tests.{unlike_name, last_named, asks_other, not_hidden, none_hidden}
use Rattle.write_counts.specs.Counts.{counted}
use Rattle.write_links.specs.Tests.{leaf_in, ref_in, line_in, unlike}
use Rattle.shown_write.proofs.Questions.{rows_split}
use Rattle.shown_write.proofs.Records.{stands_at, or_says, differ, each_long, from_zero, is_zero, says, ref_below, goes_first, leaf_rows, ascending}
use Rattle.shown_write.proofs.Counts.{hit_none, times-append, FirstAt, NoneAt, look, times_none, due_times, pdfs-goals}

-- ---- ids

abbrev depth : ℤ → ℕ
depth (pos n) = 0
depth (negsuc n) = suc n

deep : (k : ℕ) → depth (neg_ℤ (pos k)) ≡ k
deep zero = refl
deep (suc k) = refl

id_once : (a b : ℕ) → neg_ℤ (pos a) ≡ neg_ℤ (pos b) → a ≡ b
id_once a b e = sym (deep a) ∙ ap depth e ∙ deep b

-- ---- references and lines by themselves

abbrev node_of : Ref → ℤ
node_of (node x) = x
node_of (pdf n) = pos 0

abbrev number_of : Ref → ℕ
number_of (node x) = 0
number_of (pdf n) = n

node_not_pdf : {x : ℤ} {k : ℕ} → node x ≡ pdf k → ⊥
node_not_pdf e = let u : ◌≡◌ {A = ℕ} 0 1 = cc in omega arith

only : {l a : Line} → Nth (l ∷ []) 0 a → a ≡ l
only Nth.here = refl

pub single_line : {t : Body} {r : Ref} → Single t r → (ls : List Line) → t ≡ braces ls → (l : Line) × (ls ≡ l ∷ []) × (l.no ≡ r) × (l.yes ≡ r)
single_line Single.alone ls e = let u : ◌≡◌ {A = ℕ} 0 1 = cc in absurd (omega arith)
single_line (Single.alike {l = l} a b) ls e = (l, cc, a, b)

-- ---- the last question of its name

module _ (d Q P : List ℕ) (q : ℕ) (l : q < question_rows Q) (e : last_named d Q q ≡ true) where
  pub last_question : LastQuestion (each (question_of d Q P) 0 (question_rows Q)) (name_at d Q q) q
  unfolding last_named unlike_name
  last_question =
      record {
        at = question_of d Q P q;
        stands = from_zero (question_of d Q P) (question_rows Q) q l;
        true_of = refl;
        after = λ m x h s u. later m h (is_zero (question_of d Q P) (question_rows Q) s).0 (sym (ap (λ (y : Question). y.name) (is_zero (question_of d Q P) (question_rows Q) s).1) ∙ u);
      }
    where
      later : (m : ℕ) → q < m → m < question_rows Q → name_at d Q m ≡ name_at d Q q → ⊥
      later m h k u =
          let t = all_each (unlike_name d Q q) (q + 1) (question_rows Q - (q + 1)) e m (omega arith) (omega arith) in
          let s : same (name_at d Q m) (name_at d Q q) ≡ true = ap (λ (w : List ℕ). same w (name_at d Q q)) u ∙ same_same (name_at d Q q) in
          differ (same (name_at d Q m) (name_at d Q q)) s t

-- a question that a record asks is the last of its name
pub asked_last : (d Q R : List ℕ) → none_hidden d Q R ≡ true → (i : ℕ) → i < record_rows R → record_kind R i ≡ 0 → record_question R i < question_rows Q → last_named d Q (record_question R i) ≡ true
unfolding none_hidden not_hidden asks_other
asked_last d Q R e i h z l =
    ⊎_elim (λ u. u) (λ u. absurd (differ (eqb (record_kind R i) 0 && eqb (record_question R i) (record_question R i))
    (ap₂ ◌&&◌ (eq-eqb (record_kind R i) 0 z) (eq-eqb (record_question R i) (record_question R i) refl))
    (all_each (asks_other R (record_question R i)) 0 (record_rows R) u i (omega arith) (omega arith))))
    (or_says _ _ (all_each (not_hidden d Q R) 0 (question_rows Q) e (record_question R i) (omega arith) (omega arith)))

-- ---- a tree

module _ (d Q P R : List ℕ) (f m n : ℕ) (in_table : f + m ≤ record_rows R) (few : n ≤ m)
    (asks : (k : ℕ) → k < m → record_kind R (f + k) ≡ 0 → (record_question R (f + k) < question_rows Q) × (last_named d Q (record_question R (f + k)) ≡ true))
    (leaves : all (leaf_in R f n) n (m - n) ≡ true) (lines : all (line_in R f m n) 0 n ≡ true) where
  abbrev numbers : List ℕ
  numbers = each (of_record record_pdf R f) n (m - n)

  abbrev pub texts : List Line
  texts = each (line_of d Q R f n) 0 n

  -- ---- where a reference goes

  line_last : (k : ℕ) → k < n → LastLine texts (neg_ℤ (pos k)) k
  line_last k h = record {
    at = line_of d Q R f n k;
    stands = from_zero (line_of d Q R f n) n k h;
    true_of = refl;
    after = λ i x l s e. let u = id_once i k (sym (ap (λ (y : Line). y.id) (is_zero (line_of d Q R f n) n s).1) ∙ e) in omega arith;
  }

  goes : (k : ℕ) → ref_in R f m n k ≡ true → ToFirst texts numbers (ref_of R f n k) k
  goes k t = go (dec_lt k n)
    where
      go : Dec (k < n) → ToFirst texts numbers (ref_of R f n k) k
      go (yes h) = subst (λ (r : Ref). ToFirst texts numbers r k) (ref_line R f n k h) (ToFirst.to_line (line_last k h))
      go (no h) =
          let s : length texts + (k - n) ≡ k = omega (arith, each_long (line_of d Q R f n) 0 n) in
          subst (λ (r : Ref). ToFirst texts numbers r k) (ref_leaf R f n k (omega arith))
          (subst (λ (i : ℕ). ToFirst texts numbers (pdf (of_record record_pdf R f k)) i) s (ToFirst.to_first (goes_first R f m n in_table few leaves k t (omega arith))))

  -- ---- the tests of line k

  module _ (k : ℕ) (h : k < n) where
    test : line_in R f m n k ≡ true
    test = all_each (line_in R f m n) 0 n lines k (omega arith) (omega arith)

    kind_is : record_kind R (f + k) ≡ 0
    unfolding line_in
    kind_is = sym (says R f m n in_table few record_kind k (omega arith)) ∙ eqb-true (of_record record_kind R f k) 0 (first_of _ _ test)

    behind_kind : (ref_in R f m n (of_record record_yes R f k) && ref_in R f m n (of_record record_no R f k)) ≡ true
    unfolding line_in
    behind_kind = second_of (eqb (of_record record_kind R f k) 0) _ test

    pub yes_in : ref_in R f m n (of_record record_yes R f k) ≡ true
    yes_in = first_of _ _ behind_kind

    pub no_in : ref_in R f m n (of_record record_no R f k) ≡ true
    no_in = second_of (ref_in R f m n (of_record record_yes R f k)) _ behind_kind

    asked_is : of_record record_question R f k ≡ record_question R (f + k)
    asked_is = says R f m n in_table few record_question k (omega arith)

    pub asked_there : of_record record_question R f k < question_rows Q
    asked_there = omega (arith, (asks k (omega arith) kind_is).0, asked_is)

    asked_final : last_named d Q (of_record record_question R f k) ≡ true
    asked_final = ap (last_named d Q) asked_is ∙ (asks k (omega arith) kind_is).1

    -- its row is that of its numbers
    row_is : branch (of_record record_question R f k) (of_record record_yes R f k) (of_record record_no R f k) ≡ record_row R (f + k)
    row_is =
        ap₂ (λ (a b : ℕ). a ∷ b ∷ of_record record_yes R f k ∷ of_record record_no R f k ∷ []) (sym kind_is) (says R f m n in_table few record_question k (omega arith))
        ∙ ap₂ (λ (a b : ℕ). record_kind R (f + k) ∷ record_question R (f + k) ∷ a ∷ b ∷ []) (says R f m n in_table few record_yes k (omega arith)) (says R f m n in_table few record_no k (omega arith))

    line_row : LineRow (each (question_of d Q P) 0 (question_rows Q)) (ToFirst texts numbers) (line_of d Q R f n k) (record_row R (f + k))
    line_row =
        subst (LineRow (each (question_of d Q P) 0 (question_rows Q)) (ToFirst texts numbers) (line_of d Q R f n k)) row_is
        (LineRow.row (last_question d Q P (of_record record_question R f k) asked_there asked_final) (goes (of_record record_yes R f k) yes_in) (goes (of_record record_no R f k) no_in))

  line_rows : (k j : ℕ) → k + j ≡ n → Forall₂ (LineRow (each (question_of d Q P) 0 (question_rows Q)) (ToFirst texts numbers)) (each (line_of d Q R f n) k j) (rows_from (record_row R) (f + k) j)
  unfolding each rows_from
  line_rows k zero e = Forall₂.nil
  line_rows k (suc j) e =
      let s : f + suc k ≡ suc (f + k) = omega arith in
      Forall₂.cons (line_row k (omega arith))
      (subst (λ (i : ℕ). Forall₂ (LineRow (each (question_of d Q P) 0 (question_rows Q)) (ToFirst texts numbers)) (each (line_of d Q R f n) (suc k) j) (rows_from (record_row R) i j)) s (line_rows (suc k) j (omega arith)))

  -- ---- each number as often as lines refer to it

  module _ (counts : all (counted R f m n) n (m - n) ≡ true) (x : ℕ) where
    -- a reference that is passed goes to a line, or bears the number of a leaf
    refers_none : (k : ℕ) → ref_in R f m n k ≡ true → NoneAt (of_record record_pdf R f) x n (m - n) → times x (pdf_of (ref_of R f n k)) ≡ 0
    unfolding times
    refers_none k t b = go (dec_lt k n)
      where
        go : Dec (k < n) → times x (pdf_of (ref_of R f n k)) ≡ 0
        go (yes h) = ap (λ (r : Ref). times x (pdf_of r)) (sym (ref_line R f n k h))
        go (no h) =
            let z = hit_none {y = of_record record_pdf R f k} {x = x} (b k (omega arith) (omega (arith, ref_below R f m n in_table few leaves k t))) in
            let y : times x (of_record record_pdf R f k ∷ []) ≡ 0 = omega (arith, z) in
            ap (λ (r : Ref). times x (pdf_of r)) (sym (ref_leaf R f n k (omega arith))) ∙ y

    lines_none : NoneAt (of_record record_pdf R f) x n (m - n) → (k j : ℕ) → k + j ≡ n → times x (pdfs (each (line_of d Q R f n) k j)) ≡ 0
    unfolding each pdfs times
    lines_none b k zero e = refl
    lines_none b k (suc j) e =
        let rest = pdfs (each (line_of d Q R f n) (suc k) j) in
        let yes-ref = pdf_of (ref_of R f n (of_record record_yes R f k)) in
        let no_ref = pdf_of (ref_of R f n (of_record record_no R f k)) in
        omega (
          arith,
          times-append x yes-ref (no_ref ++ rest),
          times-append x no_ref rest,
          refers_none (of_record record_yes R f k) (yes_in k (omega arith)) b,
          refers_none (of_record record_no R f k) (no_in k (omega arith)) b,
          lines_none b (suc k) j (omega arith),
        )

    pub counted_so : times x numbers ≡ times x (pdfs texts)
    unfolding counted
    counted_so = ⊎_elim found (λ b. times_none (of_record record_pdf R f) x n (m - n) b ∙ sym (lines_none b 0 n (omega arith))) (look (of_record record_pdf R f) x n (m - n))
      where
        found : FirstAt (of_record record_pdf R f) x n (m - n) → times x numbers ≡ times x (pdfs texts)
        found b =
            let w : b.i < m = omega (arith, b.below) in
            let c = eqb-true _ _ (all_each (counted R f m n) n (m - n) counts b.i b.from b.below) in
            let u = due_times R f m n in_table few leaves b.i b.from w (λ h p q e. b.before h p q (e ∙ b.is)) in
            let v = pdfs-goals R f m n in_table few leaves x b.i b.from b.is b.before w d Q lines in
            sym (ap (λ (y : ℕ). times y numbers) b.is) ∙ sym u ∙ sym c ∙ sym v

  -- ---- like references go to one record

  pub ref_once : (a b : ℕ) → ref_in R f m n a ≡ true → ref_in R f m n b ≡ true → ref_of R f n a ≡ ref_of R f n b → a ≡ b
  ref_once a b s t e = go (dec_lt a n) (dec_lt b n)
    where
      -- the first of two leaves of a number is not behind the other
      apart : (i j : ℕ) → ref_in R f m n i ≡ true → ref_in R f m n j ≡ true → n ≤ i → i < j → of_record record_pdf R f i ≡ of_record record_pdf R f j → ⊥
      apart i j u v l h q =
          (goes_first R f m n in_table few leaves j v (omega arith)).before (i - n) (of_record record_pdf R f i) (omega arith) (stands_at R f m n in_table few i l (ref_below R f m n in_table few leaves i u)) q

      go : Dec (a < n) → Dec (b < n) → a ≡ b
      go (yes u) (yes v) = id_once a b (ap node_of (ref_line R f n a u ∙ e ∙ sym (ref_line R f n b v)))
      go (yes u) (no v) = absurd (node_not_pdf (ref_line R f n a u ∙ e ∙ sym (ref_leaf R f n b (omega arith))))
      go (no u) (yes v) = absurd (node_not_pdf (ref_line R f n b v ∙ sym e ∙ sym (ref_leaf R f n a (omega arith))))
      go (no u) (no v) = order (dec_lt a b) (dec_lt b a)
        where
          like : of_record record_pdf R f a ≡ of_record record_pdf R f b
          like = ap number_of (ref_leaf R f n a (omega arith) ∙ e ∙ sym (ref_leaf R f n b (omega arith)))

          order : Dec (a < b) → Dec (b < a) → a ≡ b
          order (yes h) r = absurd (apart a b s t (omega arith) h like)
          order (no h) (yes r) = absurd (apart b a t s (omega arith) r (sym like))
          order (no h) (no r) = omega arith

  pub not_single : unlike R f n ≡ true → NotSingle texts
  unfolding unlike
  not_single u r s = go (single_line s texts refl)
    where
      go : ((l : Line) × (texts ≡ l ∷ []) × (l.no ≡ r) × (l.yes ≡ r)) → ⊥
      go (l, q, a, b) =
          let one : n ≡ 1 = sym (each_long (line_of d Q R f n) 0 n) ∙ ap length q in
          let z : 0 < n = omega arith in
          let w : line_of d Q R f n 0 ≡ l = only (subst (λ (x : List Line). Nth x 0 (line_of d Q R f n 0)) q (from_zero (line_of d Q R f n) n 0 z)) in
          let e : ref_of R f n (of_record record_yes R f 0) ≡ ref_of R f n (of_record record_no R f 0) = ap (λ (x : Line). x.yes) w ∙ b ∙ sym a ∙ sym (ap (λ (x : Line). x.no) w) in
          let k = ref_once (of_record record_yes R f 0) (of_record record_no R f 0) (yes_in 0 z) (no_in 0 z) e in
          differ (eqb n 1 && eqb (of_record record_yes R f 0) (of_record record_no R f 0)) (ap₂ ◌&&◌ (eq-eqb n 1 one) (eq-eqb (of_record record_yes R f 0) (of_record record_no R f 0) k)) u

  -- ---- the records that linking makes of the lines

  pub lines_records : unlike R f n ≡ true → all (counted R f m n) n (m - n) ≡ true → Records (each (question_of d Q P) 0 (question_rows Q)) (braces texts) (rows_from (record_row R) f m)
  lines_records u c =
      let z : f + 0 ≡ f = omega arith in
      let s : n + (m - n) ≡ m = omega arith in
      Records.lines numbers (not_single u) (ascending R f m n in_table few leaves n (m - n) (omega arith) s) (counted_so c)
      (subst (λ (i : ℕ). Forall₂ (LineRow (each (question_of d Q P) 0 (question_rows Q)) (ToFirst texts numbers)) texts (rows_from (record_row R) i n)) z (line_rows 0 n (omega arith)))
      (ap (rows_from (record_row R) f) (sym s) ∙ rows_split (record_row R) f n (m - n) ∙ ap (λ (x : List Row). rows_from (record_row R) f n ++ x) (leaf_rows R f m n in_table few leaves n (m - n) (omega arith) s))
