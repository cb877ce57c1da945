-- Records that linking makes of some lines pass the tests: lines, leaves in order, and each leaf as often referred to as it has to be.
use mathlib.Core.Path.{◌≡◌, refl, sym, ap, ap₂, ◌∙◌, subst}
use mathlib.Core.Bool.{Bool, true, false, not, cond, ◌&&◌, ◌||◌}
use mathlib.Core.Logic.{⊎_elim}
use mathlib.Core.List.{List, [], ◌∷◌, ◌++◌, map, Forall₂}
use Prim.Native.Nat.{ℕ, zero, suc, ◌+◌, ◌-◌, ◌^◌, ◌≤◌, ◌<◌}
use native.Mathlib.Decide.{dec_lt, ℕ_discrete}
use native.Mathlib.Omega.{arith}
use borrow.Author.Tests.{lt-ltb, le-ltb, le-leb, eq-eqb, ne_eqb}
use lib.Dec.{leb, eqb}
use lib.ListN.{length, get_or}
use Rattle.written.specs.Said.{Ref, node, pdf, Line, braces, Question}
use Rattle.written.specs.Linking.{Nth, here, there, Row, leaf, LineRow, ToFirst, pdf_of, pdfs, times, Ascending, Single, NotSingle}
use Rattle.written.proofs.Walk.{nth_once}
use Rattle.written_back.proofs.Spelled.{All, RefFits, LineFits}
use Rattle.written_back.proofs.Plain.{nth_inside}
use Rattle.laws.specs.Every.{all}
use Rattle.laws.proofs.Every.{both, first_of, second_of, each_all}
use Rattle.table_rows.specs.Rows.{record_rows, record_kind, record_pdf, record_yes, record_no, record_row, rows_from}
use Rattle.write_records.specs.Records.{of_record}
use Rattle.write_records.proofs.Laws.{record_says}
use Rattle.write_parts.specs.Parts.{each, ref_of, line_of}
use Rattle.write_parts.proofs.Laws.{ref_line, ref_leaf}
use Rattle.write_counts.specs.Counts.{first_leaf, run_of, due_of, goals, counted}
use Rattle.write_links.specs.Tests.{leaf_at, leaf_in, ref_in, line_in, unlike, lines_in}
use Rattle.shown_write.proofs.Back.{cons_rows}
use Rattle.shown_write.proofs.Records.{each_at, each_long, mono}
use Rattle.shown_write.proofs.Counts.{hit_one, hit_none, times-append, FirstAt, NoneAt, look, first_test, due_times, pdfs-goals}

abbrev at : ℕ → Row → ℕ
at j r = get_or r j 0

-- ---- numbers that stand among others

stands_some : (x : ℕ) {l : List ℕ} {j : ℕ} → Nth l j x → 0 < times x l
unfolding times
stands_some x here = omega (arith, hit_one {y = x} {x = x} refl)
stands_some x (there h) = omega (arith, stands_some x h)

-- what lines refer to is a number that a text can have
refs_small : (x : ℕ) (r : Ref) → RefFits r → 0 < times x (pdf_of r) → x < 2 ^ 63
unfolding times
refs_small x (node z) f h = absurd (omega arith)
refs_small x (pdf n) f h = go (ℕ_discrete n x)
  where
    go : Dec (n ≡ x) → x < 2 ^ 63
    go (yes e) = omega arith
    go (no e) = absurd (omega (arith, hit_none {y = n} {x = x} e))

pdfs_small : (x : ℕ) {ls : List Line} → All LineFits ls → 0 < times x (pdfs ls) → x < 2 ^ 63
unfolding pdfs times
pdfs_small x All.none h = absurd (omega arith)
pdfs_small x (All.more {a = l} {l = ls} f g) h = go (dec_lt 0 (times x (pdf_of l.yes))) (dec_lt 0 (times x (pdf_of l.no))) (λ c. pdfs_small x g c)
  where
    go : Dec (0 < times x (pdf_of l.yes)) → Dec (0 < times x (pdf_of l.no)) → (0 < times x (pdfs ls) → x < 2 ^ 63) → x < 2 ^ 63
    go (yes a) b r = refs_small x l.yes f.yes_ref a
    go (no a) (yes b) r = refs_small x l.no f.no_ref b
    go (no a) (no b) r = r (omega (arith, times-append x (pdf_of l.yes) (pdf_of l.no ++ pdfs ls), times-append x (pdf_of l.no) (pdfs ls)))

ascending_next : {l : List ℕ} {j a b : ℕ} → Ascending l → Nth l j a → Nth l (suc j) b → a ≤ b
ascending_next Ascending.one p q = absurd (omega (arith, nth_inside q))
ascending_next (Ascending.more h r) here (there here) = h
ascending_next (Ascending.more h r) (there p) (there q) = ascending_next r p q
ascending_next {j = j} {a = a} {b = b} Rattle.written.specs.Linking.none p q = elim p [ ]

-- ---- a tree with lines: its records in rows f and on, m of them, the first n of lines

-- what linking made
pub record Made (qs : List Question) (ls : List Line) (leaves : List ℕ) (R : List ℕ) (f m n : ℕ) : Type 0 where
  pub many : n ≡ length ls
  pub few : n ≤ m
  pub in_table : f + m ≤ record_rows R
  pub unlike_one : NotSingle ls
  pub ascending : Ascending leaves
  pub counts : (x : ℕ) → times x leaves ≡ times x (pdfs ls)
  pub front : Forall₂ (LineRow qs (ToFirst ls leaves)) ls (rows_from (record_row R) f n)
  pub back : map leaf leaves ≡ rows_from (record_row R) (f + n) (m - n)
  pub fits : All LineFits ls

module _ {qs : List Question} {ls : List Line} {leaves : List ℕ} {R : List ℕ} {f m n : ℕ} (x : Made qs ls leaves R f m n) where
  -- a number of a record that is there
  says : (field : List ℕ → ℕ → ℕ) (k : ℕ) → k < m → of_record field R f k ≡ field R (f + k)
  says field k h = sym (record_says field R f k (lt-ltb (f + k) (record_rows R) (omega (arith, x.in_table))) refl)

  abbrev number : ℕ → ℕ
  number k = of_record record_pdf R f k

  -- ---- leaves

  -- the numbers of the rows behind the lines
  leaf_rows : (k : ℕ) (l : List ℕ) (j : ℕ) → k + j ≤ m → map leaf l ≡ rows_from (record_row R) (f + k) j
      → (l ≡ each number k j) × ((i : ℕ) → k ≤ i → i < k + j → record_row R (f + i) ≡ leaf (number i))
  unfolding each rows_from
  leaf_rows k [] zero h e = (refl, λ i a b. absurd (omega arith))
  leaf_rows k [] (suc j) h e = let u : ◌≡◌ {A = ℕ} 0 1 = cc in absurd (omega arith)
  leaf_rows k (y ∷ l) zero h e = let u : ◌≡◌ {A = ℕ} 0 1 = cc in absurd (omega arith)
  leaf_rows k (y ∷ l) (suc j) h e =
      let c = cons_rows (record_row R) (f + k) (suc j) e in
      let s : suc (f + k) ≡ f + suc k = omega arith in
      let q : c.j ≡ j = omega (arith, c.count) in
      let r = leaf_rows (suc k) l j (omega arith) (c.tail ∙ ap₂ (rows_from (record_row R)) s q) in
      let z : y ≡ number k = ap (at 1) c.head ∙ sym (says record_pdf k (omega arith)) in
      (ap₂ ◌∷◌ z r.0, λ i a b. pick i a b c.head z r.1 (ℕ_discrete k i))
    where
      pick : (i : ℕ) → k ≤ i → i < k + suc j → leaf y ≡ record_row R (f + k) → y ≡ number k → ((i : ℕ) → suc k ≤ i → i < suc k + j → record_row R (f + i) ≡ leaf (number i)) → Dec (k ≡ i)
          → record_row R (f + i) ≡ leaf (number i)
      pick i a b g z r (yes q) = ap (λ (p : ℕ). record_row R (f + p)) (sym q) ∙ sym g ∙ ap leaf (z ∙ ap number q)
      pick i a b g z r (no q) = r i (omega (arith, q)) (omega arith)

  abbrev both_leaves : (leaves ≡ each number n (m - n)) × ((i : ℕ) → n ≤ i → i < n + (m - n) → record_row R (f + i) ≡ leaf (number i))
  both_leaves = leaf_rows n leaves (m - n) (omega (arith, x.few)) x.back

  -- where a leaf stands
  stands : (k : ℕ) → n ≤ k → k < m → Nth leaves (k - n) (number k)
  stands k l h =
      let q : n + (k - n) ≡ k = omega arith in
      subst (λ (u : List ℕ). Nth u (k - n) (number k)) (sym both_leaves.0) (subst (λ (i : ℕ). Nth (each number n (m - n)) (k - n) (number i)) q (each_at number n (m - n) (k - n) (omega arith)))

  leaf_at_lem : (k : ℕ) → n ≤ k → k < m → leaf_at R f k ≡ true
  unfolding leaf_at
  leaf_at_lem k l h =
      let e = both_leaves.1 k l (omega (arith, x.few)) in
      let c = stands_some (number k) (stands k l h) in
      let s = pdfs_small (number k) x.fits (omega (arith, x.counts (number k))) in
      both (eq-eqb (of_record record_kind R f k) 1 (says record_kind k h ∙ ap (at 0) e))
      (both (lt-ltb (number k) 9223372036854775808 (omega (arith, s)))
      (both (eq-eqb (of_record record_yes R f k) 0 (says record_yes k h ∙ ap (at 2) e)) (eq-eqb (of_record record_no R f k) 0 (says record_no k h ∙ ap (at 3) e))))

  leaf_in_lem : (k : ℕ) → n ≤ k → k < m → leaf_in R f n k ≡ true
  unfolding leaf_in
  leaf_in_lem k l h = both (leaf_at_lem k l h) (go (ℕ_discrete k n))
    where
      go : Dec (k ≡ n) → (eqb k n || leb (number (k - 1)) (number k)) ≡ true
      go (yes e) = ap (λ (b : Bool). b || leb (number (k - 1)) (number k)) (eq-eqb k n e)
      go (no e) =
          let q : suc (k - 1 - n) ≡ k - n = omega (arith, e) in
          let s = ascending_next x.ascending (stands (k - 1) (omega (arith, e)) (omega arith)) (subst (λ (i : ℕ). Nth leaves i (number k)) (sym q) (stands k l h)) in
          ap (λ (b : Bool). b || leb (number (k - 1)) (number k)) (ne_eqb k n e) ∙ le-leb (number (k - 1)) (number k) s

  pub leaves_in : all (leaf_in R f n) n (m - n) ≡ true
  leaves_in = each_all (leaf_in R f n) n (m - n) (λ k l h. leaf_in_lem k l (omega arith))

  -- ---- references

  record Gone (r : Ref) (y : ℕ) : Type 0 where
    passes : ref_in R f m n y ≡ true
    same_pdf : pdf_of r ≡ pdf_of (ref_of R f n y)

  gone : {r : Ref} {y : ℕ} → ToFirst ls leaves r y → Gone r y
  unfolding ref_in
  gone {y = y} (ToFirst.to_line s) =
      let l : y < n = omega (arith, nth_inside s.stands, x.many) in
      record {
        passes = both (lt-ltb y m (omega (arith, x.few))) (ap (λ (b : Bool). b || first_leaf R f n y) (lt-ltb y n l));
        same_pdf = ap pdf_of (ref_line R f n y l);
      }
  gone (ToFirst.to_first {n = p} {k = k} s) =
      let y = length ls + k in
      let l : n ≤ y = omega (arith, x.many) in
      let long : length leaves ≡ m - n = ap length both_leaves.0 ∙ each_long number n (m - n) in
      let h : y < m = omega (arith, nth_inside s.stands, x.many) in
      let q : y - n ≡ k = omega (arith, x.many) in
      let z : number y ≡ p = nth_once (subst (λ (i : ℕ). Nth leaves i (number y)) q (stands y l h)) s.stands ∙ s.true_of in
      record {
        passes =
            both (lt-ltb y m h) (ap (λ (b : Bool). b || first_leaf R f n y) (le-ltb y n l)
            ∙ first_test R f m n x.in_table x.few leaves_in y l h (λ i a b e. s.before (i - n) (number i) (omega arith) (stands i a (omega arith)) (e ∙ z)));
        same_pdf = ap (λ (i : ℕ). i ∷ []) (sym z) ∙ ap pdf_of (ref_leaf R f n y l);
      }

  -- ---- lines

  -- line k: what its record says
  record Lined (k : ℕ) (l : Line) : Type 0 where
    kind_is : record_kind R (f + k) ≡ 0
    goes_yes : ToFirst ls leaves l.yes (record_yes R (f + k))
    goes_no : ToFirst ls leaves l.no (record_no R (f + k))

  lined : (k : ℕ) {l : Line} {r : Row} → LineRow qs (ToFirst ls leaves) l r → r ≡ record_row R (f + k) → Lined k l
  lined k (LineRow.row {l = l} lq gy gn) e =
      record { kind_is = sym (ap (at 0) e); goes_yes = subst (ToFirst ls leaves l.yes) (ap (at 2) e) gy; goes_no = subst (ToFirst ls leaves l.no) (ap (at 3) e) gn }

  -- all lines from line k on
  data Lines : ℕ → List Line → Type 0 where
    none : {k : ℕ} → Lines k []
    more : {k : ℕ} {l : Line} {us : List Line} → Lined k l → Lines (suc k) us → Lines k (l ∷ us)

  lines_from : (k : ℕ) {us : List Line} {rows : List Row} → Forall₂ (LineRow qs (ToFirst ls leaves)) us rows → (j : ℕ) → rows ≡ rows_from (record_row R) (f + k) j → Lines k us
  lines_from k Forall₂.nil j e = Lines.none
  lines_from k (Forall₂.cons r rs) j e =
      let c = cons_rows (record_row R) (f + k) j e in
      let s : suc (f + k) ≡ f + suc k = omega arith in
      Lines.more (lined k r c.head) (lines_from (suc k) rs c.j (c.tail ∙ ap (λ (i : ℕ). rows_from (record_row R) i c.j) s))

  all_lines : Lines 0 ls
  all_lines = let z : f ≡ f + 0 = omega arith in lines_from 0 x.front n (ap (λ (i : ℕ). rows_from (record_row R) i n) z)

  -- the tests of each line, and what it refers to
  not_first_leaf : (k : ℕ) → (k ≡ n → ⊥) → number (k - 1) ≡ number k → first_leaf R f n k ≡ false
  unfolding first_leaf
  not_first_leaf k u e = ap (λ (b : Bool). b || not (eqb (number (k - 1)) (number k))) (ne_eqb k n u) ∙ ap not (eq-eqb (number (k - 1)) (number k) e)

  not_passed : (k : ℕ) → n ≤ k → k < m → first_leaf R f n k ≡ false → ref_in R f m n k ≡ false
  unfolding ref_in
  not_passed k l h e = ap₂ (λ (a b : Bool). a && (b || first_leaf R f n k)) (lt-ltb k m h) (le-ltb k n l) ∙ e

  due_nothing : (k : ℕ) → first_leaf R f n k ≡ false → due_of R f m n k ≡ 0
  unfolding due_of
  due_nothing k e = ap (λ (b : Bool). cond b (run_of R f (number k) k (m - k)) 0) e

  module _ (d Q : List ℕ) where
    record Tried (k j : ℕ) (us : List Line) : Type 0 where
      passes : all (line_in R f m n) k j ≡ true
      same_pdfs : pdfs us ≡ pdfs (each (line_of d Q R f n) k j)

    tried : (k : ℕ) (us : List Line) → Lines k us → k + length us ≡ n → Tried k (length us) us
    unfolding all line_in pdfs each
    tried k [] Lines.none e = record { passes = refl; same_pdfs = refl }
    tried k (l ∷ us) (Lines.more a r) e =
        let h : k < m = omega (arith, x.few) in
        let t = tried (suc k) us r (omega arith) in
        let y = gone (subst (ToFirst ls leaves l.yes) (sym (says record_yes k h)) a.goes_yes) in
        let z = gone (subst (ToFirst ls leaves l.no) (sym (says record_no k h)) a.goes_no) in
        record {
          passes = both (both (eq-eqb (of_record record_kind R f k) 0 (says record_kind k h ∙ a.kind_is)) (both y.passes z.passes)) t.passes;
          same_pdfs = ap₂ ◌++◌ y.same_pdf (ap₂ ◌++◌ z.same_pdf t.same_pdfs);
        }

    tried_all : Tried 0 n ls
    tried_all = subst (λ (j : ℕ). Tried 0 j ls) (sym x.many) (tried 0 ls all_lines (omega (arith, x.many)))

    pub lines_in_lem : all (line_in R f m n) 0 n ≡ true
    lines_in_lem = tried_all.passes

    -- ---- counts

    -- no line goes to a record that no reference may go to
    apart : {i y : ℕ} → ref_in R f m n i ≡ false → ref_in R f m n y ≡ true → y ≡ i → ⊥
    apart u v e = let z : ◌≡◌ {A = Bool} true false = sym v ∙ ap (ref_in R f m n) e ∙ u in let w : ◌≡◌ {A = ℕ} 0 1 = cc in omega arith

    goals_none : (i : ℕ) → ref_in R f m n i ≡ false → (k j : ℕ) → all (line_in R f m n) k j ≡ true → times i (goals R f k j) ≡ 0
    unfolding all line_in goals times
    goals_none i e k zero t = refl
    goals_none i e k (suc j) t =
        let u = second_of (eqb (of_record record_kind R f k) 0) _ (first_of (line_in R f m n k) _ t) in
        omega (
          arith,
          hit_none {y = of_record record_yes R f k} {x = i} (apart e (first_of _ _ u)),
          hit_none {y = of_record record_no R f k} {x = i} (apart e (second_of (ref_in R f m n (of_record record_yes R f k)) _ u)),
          goals_none i e (suc k) j (second_of (line_in R f m n k) _ t),
        )

    counted_at : (k : ℕ) → n ≤ k → k < m → counted R f m n k ≡ true
    unfolding counted
    counted_at k l h = eq-eqb (times k (goals R f 0 n)) (due_of R f m n k) (⊎_elim later first (look number (number k) n (k - n)))
      where
        first : NoneAt number (number k) n (k - n) → times k (goals R f 0 n) ≡ due_of R f m n k
        first b =
            let before : (i : ℕ) → n ≤ i → i < k → number i ≡ number k → ⊥ = λ i p q e. b i p (omega arith) e in
            sym (pdfs-goals R f m n x.in_table x.few leaves_in (number k) k l refl before h d Q lines_in_lem)
            ∙ ap (times (number k)) (sym tried_all.same_pdfs) ∙ sym (x.counts (number k)) ∙ ap (times (number k)) both_leaves.0
            ∙ sym (due_times R f m n x.in_table x.few leaves_in k l h before)

        -- a leaf of its number stands before it, and so the one just before it
        later : FirstAt number (number k) n (k - n) → times k (goals R f 0 n) ≡ due_of R f m n k
        later b =
            let i = b.i in
            let s : k - 1 ≡ i + (k - 1 - i) = omega (arith, b.below, b.from) in
            let t : k ≡ k - 1 + 1 = omega (arith, b.below, b.from) in
            let like : number (k - 1) ≡ number k =
            omega (arith, mono R f m n x.in_table x.few leaves_in i (k - 1 - i) b.from (omega (arith, b.below)), mono R f m n x.in_table x.few leaves_in (k - 1) 1 (omega (arith, b.below, b.from)) (omega (arith, b.below)), b.is, ap number s, ap number t) in
            let no-first = not_first_leaf k (λ e. omega (arith, b.below, b.from)) like in
            goals_none k (not_passed k l h no-first) 0 n lines_in_lem ∙ sym (due_nothing k no-first)

    pub counts_in : all (counted R f m n) n (m - n) ≡ true
    counts_in = each_all (counted R f m n) n (m - n) (λ k l h. counted_at k l (omega arith))

  -- ---- one line with like references would have been a bare leaf

  ref_same : {r q : Ref} {i j : ℕ} → ToFirst ls leaves r i → ToFirst ls leaves q j → i ≡ j → r ≡ q
  ref_same (ToFirst.to_line {k = k} s) (ToFirst.to_line t) e =
      ap node (sym s.true_of ∙ ap (λ (l : Line). l.id) (nth_once (subst (λ (i : ℕ). Nth ls i s.at) e s.stands) t.stands) ∙ t.true_of)
  ref_same (ToFirst.to_line s) (ToFirst.to_first t) e = absurd (omega (arith, nth_inside s.stands))
  ref_same (ToFirst.to_first s) (ToFirst.to_line t) e = absurd (omega (arith, nth_inside t.stands))
  ref_same (ToFirst.to_first {k = k} s) (ToFirst.to_first {k = j} t) e =
      let q : k ≡ j = omega arith in ap pdf (sym s.true_of ∙ nth_once (subst (λ (i : ℕ). Nth leaves i s.at) q s.stands) t.stands ∙ t.true_of)

  pub unlike_so : unlike R f n ≡ true
  unfolding unlike
  unlike_so = go (ℕ_discrete n 1) (ℕ_discrete (of_record record_yes R f 0) (of_record record_no R f 0))
    where
      like_single : (us : List Line) → Lines 0 us → length us ≡ 1 → us ≡ ls → record_yes R (f + 0) ≡ record_no R (f + 0) → ⊥
      like_single [] Lines.none h q e = omega arith
      like_single (l ∷ []) (Lines.more a Lines.none) h q e =
          x.unlike_one l.yes (subst (λ (u : List Line). Single (braces u) l.yes) q (Single.alike (ref_same a.goes_no a.goes_yes (sym e)) refl))
      like_single (l ∷ (v ∷ us)) (Lines.more a r) h q e = omega arith

      go : Dec (n ≡ 1) → Dec (of_record record_yes R f 0 ≡ of_record record_no R f 0) → not (eqb n 1 && eqb (of_record record_yes R f 0) (of_record record_no R f 0)) ≡ true
      go (yes u) (yes v) =
          let h : 0 < m = omega (arith, x.few) in
          absurd (like_single ls all_lines (omega (arith, x.many)) refl (sym (says record_yes 0 h) ∙ v ∙ says record_no 0 h))
      go (yes u) (no v) = ap (λ (b : Bool). not (b && eqb (of_record record_yes R f 0) (of_record record_no R f 0))) (eq-eqb n 1 u) ∙ ap not (ne_eqb (of_record record_yes R f 0) (of_record record_no R f 0) v)
      go (no u) v = ap (λ (b : Bool). not (b && eqb (of_record record_yes R f 0) (of_record record_no R f 0))) (ne_eqb n 1 u)

  -- lines, then leaves
  pub lines_pass : lines_in R f m n ≡ true
  unfolding lines_in
  lines_pass = both (le-leb n m x.few) (both unlike_so (both (lines_in_lem [] []) (both leaves_in (counts_in [] []))))
