-- The tests of rows are what `written` says of them.
use mathlib.Core.Path.{◌≡◌, refl, sym, ap, ◌∙◌, subst}
use mathlib.Core.Bool.{true}
use mathlib.Core.List.{List, [], ◌∷◌, Forall₂}
use Prim.Native.Nat.{ℕ, ◌<◌}
use native.Mathlib.Omega.{arith}
use borrow.Author.Tests.{lt-ltb, ltb-true, eq-eqb, eqb-true}
use lib.Dec.{eqb, ltb}
use Rattle.written.specs.Said as said
use Rattle.written.specs.Said.{Ref, node, Question, QuestionPlace}
use Rattle.written.specs.Linking.{Nth, LastQuestion, Row, branch, leaf, LineRow, row, ToLeaf}
use Rattle.written.specs.Linking as L
use Rattle.written.proofs.Walk.{last_once}
use Rattle.laws.proofs.Every.{both, first_of, second_of}
use Rattle.table_rows.specs.Rows.{record_rows, record_kind, record_question, record_pdf, record_yes, record_no, record_row, record_table}
use Rattle.table_rows.proofs.Stand.{row_of, row_there}
use Rattle.tree_line.specs.declared.Line as code
use Rattle.link_fits.specs.Fits.{is_leaf, leaf_of, leads_to, row_fits}
use Rattle.link_fits.specs.declared.Target.{Target}
use Rattle.link_fits.specs.declared.Target.TheVariants.{Line}
use Rattle.shown_accepts.proofs.Lines.{LineSaid, QuestionSaid, Leads, to_line_lem, to_leaf, to_none}

module _ (R : List ℕ) where
  -- the row that stands at k
  pub row_is : {k : ℕ} {r : Row} → Nth (record_table R) k r → (k < record_rows R) × (r ≡ record_row R k)
  unfolding record_table
  row_is h = row_of (record_row R) (record_rows R) h

  pub leaf_row : (i : ℕ) → is_leaf R i ≡ true → (i < record_rows R) × (record_row R i ≡ leaf (record_pdf R i))
  unfolding is_leaf
  leaf_row i h =
      let a = first_of (ltb i (record_rows R)) _ h in
      let b = second_of (ltb i (record_rows R)) _ h in
      let c = second_of (eqb (record_kind R i) 1) _ b in
      let p = eqb-true (record_kind R i) 1 (first_of (eqb (record_kind R i) 1) _ b) in
      let q = eqb-true (record_yes R i) 0 (first_of (eqb (record_yes R i) 0) _ c) in
      let r = eqb-true (record_no R i) 0 (second_of (eqb (record_yes R i) 0) _ c) in
      (ltb-true i (record_rows R) a, λ t. p t ∷ record_pdf R i ∷ q t ∷ r t ∷ [])

  pub row_leaf : (i n : ℕ) → i < record_rows R → record_row R i ≡ leaf n → (is_leaf R i ≡ true) × (record_pdf R i ≡ n)
  unfolding is_leaf
  row_leaf i n h e =
      let p : record_kind R i ≡ 1 = cc in
      let q : record_yes R i ≡ 0 = cc in
      let r : record_no R i ≡ 0 = cc in
      let w : record_pdf R i ≡ n = cc in
      (both (lt-ltb i (record_rows R) h) (both (eq-eqb (record_kind R i) 1 p) (both (eq-eqb (record_yes R i) 0 q) (eq-eqb (record_no R i) 0 r))), w)

  pub leaf_of_lem : (n i : ℕ) → leaf_of R n i ≡ true → Nth (record_table R) i (leaf n)
  unfolding leaf_of
  leaf_of_lem n i h =
      let a = leaf_row i (first_of (is_leaf R i) _ h) in
      let b = eqb-true (record_pdf R i) n (second_of (is_leaf R i) _ h) in
      subst (Nth (record_table R) i) (a.1 ∙ ap leaf b) (row_there R i a.0)

  pub of_leaf : (n i : ℕ) → Nth (record_table R) i (leaf n) → leaf_of R n i ≡ true
  unfolding leaf_of
  of_leaf n i h =
      let a = row_is h in
      let b = row_leaf i n a.0 (sym a.1) in
      both b.0 (eq-eqb (record_pdf R i) n b.1)

  module _ (s : List ℕ) {qs : List Question} {ps : List QuestionPlace} (asks : Forall₂ (QuestionSaid s) qs ps) {ls : List said.Line} {cs : List code.Line} (lines : Forall₂ (LineSaid s) ls cs) where
    pub leads_row : {r : Ref} {t : Target} (i : ℕ) → Leads s asks lines r t → leads_to R t i ≡ true → ToLeaf ls (record_table R) r i
    leads_row i (to_line_lem {x = x} {k = k} l) h = subst (ToLeaf ls (record_table R) (node x)) (sym (eqb-true i k h)) (L.ToLeaf.to_line l)
    leads_row i (to_leaf {n = n}) h = L.ToLeaf.to_leaf (leaf_of_lem n i h)
    leads_row i (to_none n) h = let z : ◌≡◌ {A = ℕ} 0 1 = cc in absurd (omega arith)

    pub row_leads : {r : Ref} {t : Target} {i : ℕ} → Leads s asks lines r t → ToLeaf ls (record_table R) r i → leads_to R t i ≡ true
    row_leads {i = i} (to_line_lem {k = k} l) (L.ToLeaf.to_line m) = eq-eqb i k (last_once m l)
    row_leads {i = i} (to_leaf {n = n}) (L.ToLeaf.to_leaf h) = of_leaf n i h
    row_leads (to_none n) (L.ToLeaf.to_line {k = k} l) = absurd (n k l.at l.stands l.true_of)

    -- row k is there, and is that of a line
    pub record Fits (l : said.Line) (k : ℕ) : Type 0 where
      pub there : k < record_rows R
      pub is : LineRow qs (ToLeaf ls (record_table R)) l (record_row R k)

    pub fits_row : {l : said.Line} {q : ℕ} {y n : Target} (k : ℕ) → LastQuestion qs l.question q → Leads s asks lines l.yes y → Leads s asks lines l.no n → row_fits R k q y n ≡ true → Fits l k
    unfolding row_fits
    fits_row {l} {q} {y} {n} k u v w h =
        let a = second_of (ltb k (record_rows R)) _ h in
        let b = second_of (eqb (record_kind R k) 0) _ a in
        let c = second_of (eqb (record_question R k) q) _ b in
        let p = eqb-true (record_kind R k) 0 (first_of (eqb (record_kind R k) 0) _ a) in
        let o = eqb-true (record_question R k) q (first_of (eqb (record_question R k) q) _ b) in
        let e : branch q (record_yes R k) (record_no R k) ≡ record_row R k = λ t. sym p t ∷ sym o t ∷ record_yes R k ∷ record_no R k ∷ [] in
        record {
          there = ltb-true k (record_rows R) (first_of (ltb k (record_rows R)) _ h);
          is = subst (LineRow qs (ToLeaf ls (record_table R)) l) e
              (row u (leads_row (record_yes R k) v (first_of (leads_to R y (record_yes R k)) _ c)) (leads_row (record_no R k) w (second_of (leads_to R y (record_yes R k)) _ c)));
        }

    pub row_fits_lem : {l : said.Line} {q : ℕ} {y n : Target} (k : ℕ) → LastQuestion qs l.question q → Leads s asks lines l.yes y → Leads s asks lines l.no n → Fits l k → row_fits R k q y n ≡ true
    unfolding row_fits
    row_fits_lem {l} {q} {y} {n} k u v w f = go f.is refl
      where
        go : {r : Row} → LineRow qs (ToLeaf ls (record_table R)) l r → record_row R k ≡ r → row_fits R k q y n ≡ true
        go (row {q = q'} {y = y'} {n = n'} u' v' w') e =
            let p : record_kind R k ≡ 0 = cc in
            let o : record_question R k ≡ q' = cc in
            let g : record_yes R k ≡ y' = cc in
            let i : record_no R k ≡ n' = cc in
            both (lt-ltb k (record_rows R) f.there)
            (both (eq-eqb (record_kind R k) 0 p)
            (both (eq-eqb (record_question R k) q (o ∙ last_once u' u))
            (both (ap (leads_to R y) g ∙ row_leads v v') (ap (leads_to R n) i ∙ row_leads w w'))))
