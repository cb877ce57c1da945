-- What is judged of a tree is what `written` says: how linking refuses it, or that it links, and whether the rows are linked for it.
use mathlib.Core.Path.{◌≡◌, refl, sym, ap, ap₂, ◌∙◌, subst}
use mathlib.Core.Bool.{Bool, true, false, cond, ◌&&◌}
use mathlib.Core.Logic.{◌⊎◌, inl, inr}
use mathlib.Core.List.{List, [], ◌∷◌, ◌++◌, map, zip_with, Forall₂}
use Prim.Native.Nat.{ℕ, zero, suc, ◌+◌, ◌-◌, ◌≤◌, ◌<◌}
use native.Mathlib.Omega.{arith}
use borrow.Author.Tests.{eq-eqb, eqb-true}
use lib.Dec.{eqb}
use lib.ListN.{length}
use Rattle.error.specs.declared.LineFault.{LineFault}
use Rattle.std.specs.declared.result.Result.{Result}
use Rattle.std.specs.Prelude.{Some, None, Ok, Err}
use Rattle.written.specs.Bytes.{Span}
use Rattle.written.specs.Said as said
use Rattle.written.specs.Said.{Ref, node, pdf, Body, lone, braces, Question, QuestionPlace}
use Rattle.written.specs.TreeText.{Parted, last, next, LineParting, LineAt, BodyAt, one, none, lines}
use Rattle.written.specs.Linking as L
use Rattle.written.specs.Linking.{Nth, here, there, Single, alone, alike, NotSingle, Row, leaf, LineRow, ToLeaf, Linked, Records, Refused, Fault}
use Rattle.written.proofs.Walk.{nth-append, paired, no_row, no_single, single_once}
use Rattle.written.proofs.Links.{links}
use Rattle.laws.proofs.Every.{both, first_of, second_of, all_each, each_all}
use Rattle.table_rows.specs.Rows.{record_rows, record_pdf, record_row, record_table, rows_from}
use Rattle.table_rows.proofs.Stand.{records_many, row_there}
use Rattle.tree_reference.specs.References.{index_of, same_index}
use Rattle.tree_reference.proofs.Same.{same_index_lem, index_same}
use Rattle.tree_line.specs.Lines.{line_of}
use Rattle.tree_line.specs.declared.Line as code
use Rattle.tree_body.specs.Trees as tree
use Rattle.tree_body.specs.Trees.{body_of}
use Rattle.error.specs.Numbers.{fault_number, line_fault}
use Rattle.error.specs.declared.LinkFault.{LinkFault}
use Rattle.error.specs.declared.LinkFault.TheVariants.{LoneNode}
use Rattle.link_alone.specs.Alone.{ended, judged_lines, judged_alone, single_in, judged_single}
use Rattle.link_fits.specs.Fits.{is_leaf, leaf_of, leaves_from}
use Rattle.shown_accepts.proofs.Lines.{LineSaid, QuestionSaid, lines_said}
use Rattle.shown_accepts.proofs.Rows.{row_is, leaf_row, row_leaf, leaf_of_lem, of_leaf, Fits}
use Rattle.shown_accepts.proofs.Judged.{Judges, told, fault_at, judges}

-- how a tree is judged, against its questions and the rows of a table
pub data Verdict (qs : List Question) (R : List ℕ) (t : Body) : Result Bool LineFault → Type 0 where
  fits : {own : List Row} → Records qs t own → Linked qs t (record_table R) → Verdict qs R t (Ok true)
  other : {own : List Row} → Records qs t own → ¬ Linked qs t (record_table R) → Verdict qs R t (Ok false)
  refused : {g : LinkFault} {k : ℕ} → Refused qs t (fault_number g) k → Verdict qs R t (Err (line_fault g k))

-- ---- tables by their rows

no_rows : (R : List ℕ) → record_rows R ≡ 0 → record_table R ≡ []
unfolding record_table rows_from
no_rows R e = ap (rows_from (record_row R) 0) e

one_row : (R : List ℕ) (n : ℕ) → record_rows R ≡ 1 → leaf_of R n 0 ≡ true → record_table R ≡ leaf n ∷ []
unfolding record_table rows_from
one_row R n e h = ap (rows_from (record_row R) 0) e ∙ ap (λ (r : Row). r ∷ []) (sym (row_is R (leaf_of_lem R n 0 h)).1)

module _ (qs : List Question) (R : List ℕ) where
  of_told : {t : Body} {own : List Row} (b : Bool) → Records qs t own → (b ≡ true → Linked qs t (record_table R)) → (Linked qs t (record_table R) → b ≡ true) → Verdict qs R t (Ok b)
  of_told true r to from = fits r (to refl)
  of_told false r to from = other r (λ l. let z : ◌≡◌ {A = ℕ} 0 1 = cc (from l) in omega arith)

  -- ---- one reference

  linked_one : {t : Body} {n : ℕ} {rows : List Row} → Single t (pdf n) → Linked qs t rows → rows ≡ leaf n ∷ []
  linked_one {n = n} s (Linked.single {n = m} u) = let e = single_once s u in let q : n ≡ m = cc in ap (λ (k : ℕ). leaf k ∷ []) (sym q)
  linked_one s Linked.empty = absurd (no_single s)
  linked_one {n = n} s (Linked.lines ns o f e) = absurd (o (pdf n) s)

  pub alone_verdict : {t : Body} (r : Ref) → Single t r → Verdict qs R t (judged_alone R (index_of r))
  alone_verdict (node x) s = refused {g = LoneNode} (Refused.single s)
  alone_verdict {t} (pdf n) s =
      of_told (eqb (record_rows R) 1 && leaf_of R n 0) (Records.single s)
      (λ h. subst (Linked qs t) (sym (one_row R n (eqb-true (record_rows R) 1 (first_of (eqb (record_rows R) 1) (leaf_of R n 0) h)) (second_of (eqb (record_rows R) 1) (leaf_of R n 0) h))) (Linked.single s))
      (λ l.
      let e = linked_one s l in
      let m : record_rows R ≡ 1 = sym (records_many R) ∙ ap length e in
      both (eq-eqb (record_rows R) 1 m) (of_leaf R n 0 (subst (λ (rs : List Row). Nth rs 0 (leaf n)) (sym e) here)))

  -- ---- no line

  linked_none : {rows : List Row} → Linked qs (braces []) rows → rows ≡ []
  linked_none (Linked.single s) = absurd (no_single s)
  linked_none Linked.empty = refl

  pub empty_verdict : Verdict qs R (braces []) (Ok (eqb (record_rows R) 0))
  unfolding L.pdfs L.times
  empty_verdict =
      of_told (eqb (record_rows R) 0) (Records.lines [] (λ r h. no_single h) L.Ascending.none (λ n. refl) Forall₂.nil refl)
      (λ h. subst (Linked qs (braces [])) (sym (no_rows R (eqb-true (record_rows R) 0 h))) Linked.empty)
      (λ l. eq-eqb (record_rows R) 0 (sym (records_many R) ∙ ap length (linked_none l)))

-- ---- lines

nth_past : {A : Type 0} (xs : List A) {ys : List A} {k : ℕ} {y : A} → length xs ≤ k → Nth (xs ++ ys) k y → Nth ys (k - length xs) y
nth_past [] {ys} {k} {y} h n = let z : k ≡ k - 0 = omega arith in subst (λ (i : ℕ). Nth ys i y) z n
nth_past (x ∷ xs) h here = absurd (omega arith)
nth_past (x ∷ xs) {ys} {y = y} h (there {k = k} n) = let z : k - length xs ≡ suc k - suc (length xs) = omega arith in subst (λ (i : ℕ). Nth ys i y) z (nth_past xs (omega arith) n)

of_map : {A : Type 0} (f : ℕ → A) (ns : List ℕ) {k : ℕ} {y : A} → Nth (map f ns) k y → (n : ℕ) × (y ≡ f n)
of_map f [] h = absurd (no_row h)
of_map f (n ∷ ns) here = (n, refl)
of_map f (n ∷ ns) (there h) = of_map f ns h

pub pair_lengths : {A B : Type 0} {S : A → B → Type 0} {xs : List A} {ys : List B} → Forall₂ S xs ys → length xs ≡ length ys
pair_lengths Forall₂.nil = refl
pair_lengths (Forall₂.cons h t) = ap suc (pair_lengths t)

-- rows from i on, paired with lines that fit them one by one
paired_from : (row : ℕ → Row) {S : said.Line → Row → Type 0} (ls : List said.Line) (i : ℕ) → ((m : ℕ) (l : said.Line) → Nth ls m l → S l (row (i + m))) → Forall₂ S ls (rows_from row i (length ls))
unfolding rows_from
paired_from row [] i f = Forall₂.nil
paired_from row {S} (l ∷ ls) i f =
    let z : i + 0 ≡ i = omega arith in
    Forall₂.cons (subst (λ (k : ℕ). S l (row k)) z (f 0 l here)) (paired_from row ls (suc i) (λ m e h. let y : i + suc m ≡ suc i + m = omega arith in subst (λ (k : ℕ). S e (row k)) y (f (suc m) e (there h))))

-- leaves from i on
leaves_of : (R : List ℕ) (i n : ℕ) → ((k : ℕ) → i ≤ k → k < i + n → record_row R k ≡ leaf (record_pdf R k)) → (ns : List ℕ) × (rows_from (record_row R) i n ≡ map leaf ns)
unfolding rows_from
leaves_of R i zero f = ([], refl)
leaves_of R i (suc n) f =
    let r = leaves_of R (suc i) n (λ k h l. f k (omega arith) (omega arith)) in
    (record_pdf R i ∷ r.0, ap₂ (λ (x : Row) (y : List Row). x ∷ y) (f i (omega arith) (omega arith)) r.1)

split_rows : (row : ℕ → Row) (i m n : ℕ) → rows_from row i (m + n) ≡ rows_from row i m ++ rows_from row (i + m) n
unfolding rows_from
split_rows row i zero n =
    let z : 0 + n ≡ n = omega arith in
    let y : i ≡ i + 0 = omega arith in
    ap (rows_from row i) z ∙ ap (λ (k : ℕ). rows_from row k n) y
split_rows row i (suc m) n =
    let z : suc m + n ≡ suc (m + n) = omega arith in
    let y : suc i + m ≡ i + suc m = omega arith in
    ap (rows_from row i) z ∙ ap (λ (rs : List Row). row i ∷ rs) (split_rows row (suc i) m n ∙ ap (λ (k : ℕ). rows_from row (suc i) m ++ rows_from row k n) y)

module _ (R s : List ℕ) {qs : List Question} {ps : List QuestionPlace} (asks : Forall₂ (QuestionSaid s) qs ps) {ls : List said.Line} {cs : List code.Line} (lines_are : Forall₂ (LineSaid s) ls cs) (o : NotSingle ls) where
  -- every line's row in its place and leaves behind them: linked
  fit_linked : 0 < length ls → ((m : ℕ) (l : said.Line) → Nth ls m l → Fits R s asks lines_are l (0 + m)) → leaves_from R (length ls) ≡ true → Linked qs (braces ls) (record_table R)
  unfolding record_table leaves_from
  fit_linked some each rest = go ls refl
    where
      n : ℕ
      n = length ls

      inside : n ≤ record_rows R
      inside = below ls refl
        where
          below : (ks : List said.Line) → ls ≡ ks → length ls ≤ record_rows R
          below [] e = absurd (omega (arith, ap length e))
          below (k ∷ ks) e =
              let h = nth_last k ks in
              let f = each (length ks) h.0 (subst (λ (z : List said.Line). Nth z (length ks) h.0) (sym e) h.1) in
              omega (arith, f.there, ap length e)
            where
              nth_last : (k : said.Line) (ks : List said.Line) → (l : said.Line) × Nth (k ∷ ks) (length ks) l
              nth_last k [] = (k, here)
              nth_last k (j ∷ ks) = let r = nth_last j ks in (r.0, there r.1)

      m : ℕ
      m = record_rows R - length ls

      leaves : (ns : List ℕ) × (rows_from (record_row R) (0 + length ls) m ≡ map leaf ns)
      leaves = leaves_of R (0 + length ls) m (λ k h l. (leaf_row R k (all_each (is_leaf R) (length ls) (record_rows R - length ls) rest k (omega arith) (omega arith))).1)

      whole : rows_from (record_row R) 0 (record_rows R) ≡ rows_from (record_row R) 0 (length ls) ++ map leaf leaves.0
      whole =
          let z : record_rows R ≡ length ls + (record_rows R - length ls) = omega (arith, inside) in
          ap (rows_from (record_row R) 0) z ∙ split_rows (record_row R) 0 (length ls) (record_rows R - length ls) ∙ ap (λ (rs : List Row). rows_from (record_row R) 0 (length ls) ++ rs) leaves.1

      pairs : Forall₂ (LineRow qs (ToLeaf ls (record_table R))) ls (rows_from (record_row R) 0 (length ls))
      pairs = paired_from (record_row R) ls 0 (λ m l h. (each m l h).is)

      go : (ks : List said.Line) → ls ≡ ks → Linked qs (braces ls) (record_table R)
      go [] e = absurd (omega (arith, ap length e))
      go (k ∷ ks) e =
          subst (λ (z : List said.Line). Linked qs (braces z) (record_table R)) (sym e)
          (Linked.lines leaves.0 (subst NotSingle e o) (subst (λ (z : List said.Line). Forall₂ (LineRow qs (ToLeaf z (record_table R))) z (rows_from (record_row R) 0 (length ls))) e pairs) whole)

  -- linked: every line's row in its place, and leaves behind them
  linked_fit : {body : Body} → body ≡ braces ls → {rows : List Row} → rows ≡ record_table R → Linked qs body rows → ((m : ℕ) (l : said.Line) → Nth ls m l → Fits R s asks lines_are l (0 + m)) × (leaves_from R (length ls) ≡ true)
  unfolding leaves_from
  linked_fit b q (Linked.single {n = n} u) = absurd (o (pdf n) (subst (λ (t : Body). Single t (pdf n)) b u))
  linked_fit b q Linked.empty = let z : [] ≡ ls = cc in
      (λ m l h. absurd (no_row (subst (λ (x : List said.Line). Nth x m l) (sym z) h)), each_all (is_leaf R) (length ls) (record_rows R - length ls) (λ i h l. absurd (omega (arith, records_many R, ap length (sym q)))))
  linked_fit b {rows} q (Linked.lines {l = e} {ls = es} {front = front} leaves o' f w) = (rows_fit, rest)
    where
      same : e ∷ es ≡ ls
      same = cc

      pairs : Forall₂ (LineRow qs (ToLeaf ls (record_table R))) ls front
      pairs = subst (λ (z : List said.Line). Forall₂ (LineRow qs (ToLeaf z (record_table R))) z front) same (subst (λ (rs : List Row). Forall₂ (LineRow qs (ToLeaf (e ∷ es) rs)) (e ∷ es) front) q f)

      table : record_table R ≡ front ++ map leaf leaves
      table = sym q ∙ w

      rows_fit : (m : ℕ) (l : said.Line) → Nth ls m l → Fits R s asks lines_are l (0 + m)
      rows_fit m l h =
          let p = paired pairs h in
          let a = row_is R (subst (λ (rs : List Row). Nth rs m p.0) (sym table) (nth-append (map leaf leaves) p.1)) in
          let z : m ≡ 0 + m = omega arith in
          subst (Fits R s asks lines_are l) z (record { there = a.0; is = subst (LineRow qs (ToLeaf ls (record_table R)) l) a.1 p.2 })

      rest : leaves_from R (length ls) ≡ true
      rest = each_all (is_leaf R) (length ls) (record_rows R - length ls) (λ i h g.
          let y : i < record_rows R = omega arith in
          let long : length front ≡ length ls = sym (pair_lengths pairs) in
          let t = of_map leaf leaves (nth_past front (omega (arith, long)) (subst (λ (rs : List Row). Nth rs i (record_row R i)) table (row_there R i y))) in
          (row_leaf R i t.0 y t.1).0)

  -- ---- the verdict on lines

  no_refused : ((m : ℕ) (l : said.Line) (n : ℕ) → Nth ls m l → ¬ Fault qs ls l n) → (own : List Row) × Records qs (braces ls) own
  no_refused clean = go (links qs (braces ls))
    where
      never : {t : Body} {c k : ℕ} → t ≡ braces ls → Refused qs t c k → ⊥
      never b (Refused.single {x = x} u) = o (node x) (subst (λ (t : Body). Single t (node x)) b u)
      never b (Refused.lines {ls = es} {l = l} {c = c} {k = k} p h f g) = let z : es ≡ ls = cc in clean k l c (subst (λ (x : List said.Line). Nth x k l) z h) (subst (λ (x : List said.Line). Fault qs x l c) z f)

      go : ((rows : List Row) × Records qs (braces ls) rows) ⊎ ((c : ℕ) × (k : ℕ) × Refused qs (braces ls) c k) → (own : List Row) × Records qs (braces ls) own
      go (inl r) = r
      go (inr r) = absurd (never refl r.2)

  pub lines_verdict : 0 < length ls → Verdict qs R (braces ls) (ended (leaves_from R (length cs)) (judged_lines s ps cs R 0 true cs))
  lines_verdict some = subst (λ (n : ℕ). Verdict qs R (braces ls) (ended (leaves_from R n) (judged_lines s ps cs R 0 true cs))) (pair_lengths lines_are) (go (judges R s asks lines_are lines_are 0 true))
    where
      go : {j : Result Bool LineFault} → Judges R s asks lines_are ls 0 true j → Verdict qs R (braces ls) (ended (leaves_from R (length ls)) j)
      go (told {c = c} clean to from) =
          let r = no_refused clean in
          of_told qs R (leaves_from R (length ls) && c) r.1
          (λ h. fit_linked some (to (second_of (leaves_from R (length ls)) c h)).1 (first_of (leaves_from R (length ls)) c h))
          (λ l. let f = linked_fit refl refl l in both f.1 (from refl f.0))
      go (fault_at {g = e} {m = m} h f g) = let z : m ≡ 0 + m = omega arith in subst (λ (k : ℕ). Verdict qs R (braces ls) (Err (line_fault e k))) z (refused {g = e} (Refused.lines o h f g))

-- ---- a tree's body, as it is read

pub not_alike : {l : said.Line} → same_index (index_of l.no) (index_of l.yes) ≡ false → NotSingle (l ∷ [])
not_alike {l} e r (alike a b) =
    let u : ◌≡◌ {A = Bool} true false = sym (same_index_lem l.yes) ∙ ap (λ (q : Ref). same_index (index_of q) (index_of l.yes)) (b ∙ sym a) ∙ e in
    let t : ◌≡◌ {A = ℕ} 0 1 = cc in omega arith

pub not_two : {l k : said.Line} {ls : List said.Line} → NotSingle (l ∷ k ∷ ls)
not_two r h = elim h [ ]

-- what is judged of a body
abbrev pub judged_body : List ℕ → List QuestionPlace → List ℕ → tree.Body → Result Bool LineFault
judged_body s ps R (tree.lone r) = judged_alone R r
judged_body s ps R (tree.braces []) = Ok (eqb (record_rows R) 0)
judged_body s ps R (tree.braces (l ∷ ls)) = judged_single s ps R (l ∷ ls) (single_in (l ∷ ls))

module _ (R s : List ℕ) {qs : List Question} {ps : List QuestionPlace} (asks : Forall₂ (QuestionSaid s) qs ps) where
  braces_verdict : {b c : ℕ} {ls : List said.Line} {ws : List Span} → Parted (LineParting s) (LineAt s) b c ls ws → Verdict qs R (braces ls) (judged_body s ps R (tree.braces (zip_with line_of ls ws)))
  unfolding zip_with
  braces_verdict (last {x = l} {y = w} t) = go (same_index (index_of l.no) (index_of l.yes)) refl
    where
      go : (b : Bool) → same_index (index_of l.no) (index_of l.yes) ≡ b → Verdict qs R (braces (l ∷ [])) (judged_single s ps R (line_of l w ∷ []) (single_in (line_of l w ∷ [])))
      go true e =
          subst (λ (b : Bool). Verdict qs R (braces (l ∷ [])) (judged_single s ps R (line_of l w ∷ []) (cond b (Some (index_of l.yes)) None))) (sym e)
          (alone_verdict qs R l.yes (alike (index_same l.no l.yes e) refl))
      go false e =
          subst (λ (b : Bool). Verdict qs R (braces (l ∷ [])) (judged_single s ps R (line_of l w ∷ []) (cond b (Some (index_of l.yes)) None))) (sym e)
          (lines_verdict R s asks (lines_said s (last t)) (not_alike e) (omega arith))
  braces_verdict (next t p (last u)) = lines_verdict R s asks (lines_said s (next t p (last u))) not_two (omega arith)
  braces_verdict (next t p (next u q r)) = lines_verdict R s asks (lines_said s (next t p (next u q r))) not_two (omega arith)

  pub body_verdict : {i j : ℕ} {t : Body} {ws : List Span} → BodyAt s i j t ws → Verdict qs R t (judged_body s ps R (body_of t ws))
  unfolding zip_with
  body_verdict (one {r = r} t) = alone_verdict qs R r alone
  body_verdict (none a b c) = empty_verdict qs R
  body_verdict (lines a b p c d) = braces_verdict p
