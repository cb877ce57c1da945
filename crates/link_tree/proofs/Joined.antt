-- Linking as the work has it is `written`'s linking: where it is done, the rows are the records of the tree; where it is refused, so is the tree, with that number and line.
use mathlib.Core.Path.{◌≡◌, refl, sym, ap, ap₂, ◌∙◌, subst}
use mathlib.Core.Logic.{◌⊎◌, inl, inr}
use mathlib.Core.Bool.{Bool, true, false, cond}
use mathlib.Core.List.{List, [], ◌∷◌, ◌++◌, map, flatten, Forall₂}
use Prim.Native.Nat.{ℕ, zero, suc, ◌+◌, ◌-◌, ◌*◌, ◌/◌, ◌^◌, ◌≤◌, ◌<◌}
use native.Mathlib.Omega.{arith}
use borrow.Author.Tests.{eqb-true, eq-eqb, lt-ltb, ltb-true, ltb-false}
use lib.Dec.{ltb, eqb}
use lib.IntN.{ℤ, pos}
use lib.Signed.{mag}
use lib.ListN.{length, get_or}
use Rattle.link_tree.specs.declared.Sides.{Sides}
use Rattle.std.specs.declared.result.Result.{Result}
use Rattle.std.specs.declared.option.Option.{Option}
use Rattle.std.specs.Prelude.{Some, None, Ok, Err}
use Rattle.written.specs.Said.{Ref, node, pdf, Line, braces, Question}
use Rattle.written.specs.Linking as L
use Rattle.written.specs.Linking.{Nth, here, there, First, LastLine, LastQuestion, NotSingle, pdf_of, Row, branch, leaf, LineRow, row, times, Ascending, ToFirst, to_line, to_first, Records, Declared, borne, a_pdf, Asked, asked, Fault, yes_undeclared, no_undeclared, not_asked, Refused}
use Rattle.laws.specs.Wholes.{eq_z}
use Rattle.laws.proofs.Nth.{nth_inside, flatten-append}
use Rattle.laws.proofs.Wholes.{eq_z-true}
use Rattle.error.specs.Numbers.{fault_number, line_fault}
use Rattle.error.specs.declared.LinkFault.{LinkFault}
use Rattle.error.specs.declared.LinkFault.TheVariants.{NodeRef, QuestionRef, LoneNode}
use Rattle.link_order.specs.Keys.{id_key, id_at, key_of}
use Rattle.link_sort.specs.Sorted.{sorted}
use Rattle.link_sort.proofs.Index as I
use Rattle.link_sort.proofs.Index.{Rises, rises_sorted, times-sorted}
use Rattle.link_search.specs.Found.{last_below, first_from}
use Rattle.link_search.proofs.Ids.{same_id, id_small}
use Rattle.link_search.proofs.Last.{last_found, last_missing}
use Rattle.link_targets.specs.Lines.{WorkLine, line_in, lines_from, ref_at, ref_of, pdfs_of}
use Rattle.text_parts.specs.Parts.{nat_of}
use Rattle.link_targets.specs.Targets.{moved, target_of}
use Rattle.link_rows.specs.Rows.{leaf_rows}
use Rattle.link_tree.proofs.Whole.{length_lines}
use Rattle.link_tree.specs.Steps.{step_question, step_yes, first, outcome, goals_of, goals, sides}
use Rattle.link_tree.specs.Linked.{leaves_of, step_in, record_rows, link_outcome, linked_rows}

-- ---- the first leaf of a number

abbrev FirstOf : ℕ → ℕ → List ℕ → ℕ → Type 0
FirstOf v k l r = (j : ℕ) × (r ≡ k + j) × First (λ m. m ≡ v) l j

first_found : (v k : ℕ) (l : List ℕ) (r : ℕ) → first_from (λ e. eqb e v) k l ≡ Some r → FirstOf v k l r
unfolding first_from
first_found v k [] r e = let u : ◌≡◌ {A = ℕ} 0 1 = cc in absurd (omega arith)
first_found v k (x ∷ l) r e = go (eqb x v) refl e (first_found v (suc k) l r)
  where
    earlier : eqb x v ≡ false → (j : ℕ) → First (λ m. m ≡ v) l j → (m : ℕ) (y : ℕ) → m < suc j → Nth (x ∷ l) m y → ¬ (y ≡ v)
    earlier q j f zero y h here z = let u : ◌≡◌ {A = Bool} true false = sym (eq-eqb x v z) ∙ q in let t : ◌≡◌ {A = ℕ} 0 1 = cc in absurd (omega arith)
    earlier q j f (suc m) y h (there s) z = f.before m y (omega arith) s z

    go : (b : Bool) → eqb x v ≡ b → cond b (Some k) (first_from (λ e. eqb e v) (suc k) l) ≡ Some r → (first_from (λ e. eqb e v) (suc k) l ≡ Some r → FirstOf v (suc k) l r) → FirstOf v k (x ∷ l) r
    go true q e i = let z : k ≡ r = cc in (0, omega arith, record { at = x; stands = here; true_of = eqb-true x v q; before = λ m y h s. absurd (omega arith) })
    go false q e i =
        let f = i e in
        (suc f.0, omega (arith, f.1), record { at = f.2.at; stands = there f.2.stands; true_of = f.2.true_of; before = earlier q f.0 f.2 })

first_missing : (v k : ℕ) (l : List ℕ) → first_from (λ e. eqb e v) k l ≡ None → times v l ≡ 0
unfolding first_from times
first_missing v k [] e = refl
first_missing v k (x ∷ l) e = go (eqb x v) refl e (first_missing v (suc k) l)
  where
    go : (b : Bool) → eqb x v ≡ b → cond b (Some k) (first_from (λ e. eqb e v) (suc k) l) ≡ None → (first_from (λ e. eqb e v) (suc k) l ≡ None → times v l ≡ 0) → cond b 1 0 + times v l ≡ 0
    go true q e i = let u : ◌≡◌ {A = ℕ} 0 1 = cc in absurd (omega arith)
    go false q e i = omega (arith, i e)

-- ---- rows of leaves

flat_leaves : (l : List ℕ) → flatten (map leaf l) ≡ leaf_rows l
unfolding flatten leaf_rows
flat_leaves [] = refl
flat_leaves (x ∷ l) = ap (λ t. 1 ∷ x ∷ 0 ∷ 0 ∷ t) (flat_leaves l)

-- ---- leaves ascend

number_le : (x y : ℕ) → key_of (λ x. 0) x ≤ key_of (λ x. 0) y → x ≤ y
unfolding key_of
number_le x y h = go (ltb x (2 ^ 64)) refl (ltb y (2 ^ 64)) refl h
  where
    go : (a : Bool) → ltb x (2 ^ 64) ≡ a → (b : Bool) → ltb y (2 ^ 64) ≡ b → cond a (2 * (0 * 2 ^ 64 + x)) (2 * x + 1) ≤ cond b (2 * (0 * 2 ^ 64 + y)) (2 * y + 1) → x ≤ y
    go true p true q h = omega arith
    go true p false q h = omega (arith, ltb-true x (2 ^ 64) p, ltb-false y (2 ^ 64) q)
    go false p true q h = omega arith
    go false p false q h = omega arith

rises_ascending : (l : List ℕ) → Rises (key_of (λ x. 0)) l → Ascending l
rises_ascending [] r = L.Ascending.none
rises_ascending (x ∷ []) r = L.Ascending.one
rises_ascending (x ∷ y ∷ l) (I.Rises.more h r) = L.Ascending.more (number_le x y h) (rises_ascending (y ∷ l) r)

leaves_ascend : (l : List ℕ) → Ascending (sorted (key_of (λ x. 0)) l)
leaves_ascend l = rises_ascending (sorted (key_of (λ x. 0)) l) (rises_sorted (key_of (λ x. 0)) l)

-- ---- lines of the work and lines of the text

-- a name as the work has it: one more than the row of the last question of that name, or 0 where no question has it
pub data AskedAs (qs : List Question) (name : List ℕ) : ℕ → Type 0 where
  some : {q : ℕ} → LastQuestion qs name q → AskedAs qs name (suc q)
  none : ¬ Asked qs name → AskedAs qs name 0

pub record Says (qs : List Question) (w : WorkLine) (l : Line) : Type 0 where
  pub id : w.id ≡ l.id
  pub yes : w.yes ≡ l.yes
  pub no : w.no ≡ l.no
  pub question : AskedAs qs l.question w.question

as_many : {qs : List Question} {ws : List WorkLine} {ls : List Line} → Forall₂ (Says qs) ws ls → length ws ≡ length ls
as_many Forall₂.nil = refl
as_many (Forall₂.cons s f) = ap suc (as_many f)

pdfs_are : {qs : List Question} (ws : List WorkLine) (ls : List Line) → Forall₂ (Says qs) ws ls → pdfs_of ws ≡ L.pdfs ls
unfolding pdfs_of L.pdfs
pdfs_are [] [] Forall₂.nil = refl
pdfs_are (a ∷ ws) (l ∷ ls) (Forall₂.cons s f) = ap₂ (λ x y. x ++ y) (ap pdf_of s.yes) (ap₂ (λ x y. x ++ y) (ap pdf_of s.no) (pdfs_are ws ls f))
pdfs_are {qs = qs} [] (l ∷ ls) x'' = elim x'' [ ]
pdfs_are {qs = qs} (a ∷ ws) [] x3 = elim x3 [ ]

-- a PDF of a line is counted

times-append : (v : ℕ) (a b : List ℕ) → times v (a ++ b) ≡ times v a + times v b
unfolding times
times-append v [] b = omega arith
times-append v (x ∷ a) b = let r = times-append v a b in omega arith

one_counted : (v : ℕ) (r : Ref) → r ≡ pdf v → times v (pdf_of r) ≡ 1
unfolding times
one_counted v r e = ap (λ x. times v (pdf_of x)) e ∙ ap (λ b. cond b 1 0 + 0) (eq-eqb v v refl)

line_counted : (v : ℕ) (a : WorkLine) (ws : List WorkLine) → times v (pdfs_of (a ∷ ws)) ≡ times v (pdf_of a.yes) + (times v (pdf_of a.no) + times v (pdfs_of ws))
unfolding pdfs_of
line_counted v a ws = times-append v (pdf_of a.yes) (pdf_of a.no ++ pdfs_of ws) ∙ ap (λ (k : ℕ). times v (pdf_of a.yes) + k) (times-append v (pdf_of a.no) (pdfs_of ws))

module _ (w : List ℤ) (v : ℕ) where
  yes_counted : (j n i : ℕ) → i < n → (line_in w (j + i)).yes ≡ pdf v → 0 < times v (pdfs_of (lines_from w j n))
  unfolding lines_from
  yes_counted j zero i h e = absurd (omega arith)
  yes_counted j (suc n) zero h e =
      let z : j + 0 ≡ j = omega arith in
      omega (arith, line_counted v (line_in w j) (lines_from w (suc j) n), one_counted v (line_in w j).yes (ap (λ (k : ℕ). (line_in w k).yes) (sym z) ∙ e))
  yes_counted j (suc n) (suc i) h e =
      let z : suc j + i ≡ j + suc i = omega arith in
      omega (arith, line_counted v (line_in w j) (lines_from w (suc j) n), yes_counted (suc j) n i (omega arith) (ap (λ (k : ℕ). (line_in w k).yes) z ∙ e))

  no_counted : (j n i : ℕ) → i < n → (line_in w (j + i)).no ≡ pdf v → 0 < times v (pdfs_of (lines_from w j n))
  unfolding lines_from
  no_counted j zero i h e = absurd (omega arith)
  no_counted j (suc n) zero h e =
      let z : j + 0 ≡ j = omega arith in
      omega (arith, line_counted v (line_in w j) (lines_from w (suc j) n), one_counted v (line_in w j).no (ap (λ (k : ℕ). (line_in w k).no) (sym z) ∙ e))
  no_counted j (suc n) (suc i) h e =
      let z : suc j + i ≡ j + suc i = omega arith in
      omega (arith, line_counted v (line_in w j) (lines_from w (suc j) n), no_counted (suc j) n i (omega arith) (ap (λ (k : ℕ). (line_in w k).no) z ∙ e))

module _ (qs : List Question) (w : List ℤ) where
  -- line k of the work says line k of the text
  line_nth : (j n k : ℕ) (ls : List Line) → k < n → Forall₂ (Says qs) (lines_from w j n) ls → (l : Line) × Nth ls k l × Says qs (line_in w (j + k)) l
  unfolding lines_from
  line_nth j zero k ls h f = absurd (omega arith)
  line_nth j (suc n) zero (l ∷ ls) h (Forall₂.cons s f) = let e : j ≡ j + 0 = omega arith in (l, here, subst (λ (i : ℕ). Says qs (line_in w i) l) e s)
  line_nth j (suc n) (suc k) (l ∷ ls) h (Forall₂.cons s f) =
      let r = line_nth (suc j) n k ls (omega arith) f in
      let e : suc j + k ≡ j + suc k = omega arith in
      (r.0, there r.1, subst (λ (i : ℕ). Says qs (line_in w i) r.0) e r.2)
  line_nth j (suc n) zero [] h f = elim f [ ]
  line_nth j (suc n) (suc k) [] h f = elim f [ ]

  nth_line : (j n k : ℕ) (ls : List Line) (l : Line) → Forall₂ (Says qs) (lines_from w j n) ls → Nth ls k l → (k < n) × Says qs (line_in w (j + k)) l
  unfolding lines_from
  nth_line j zero k ls l f t = absurd (omega (arith, as_many f, nth_inside t))
  nth_line j (suc n) zero (l ∷ ls) _ (Forall₂.cons s f) here = let e : j ≡ j + 0 = omega arith in (omega arith, subst (λ (i : ℕ). Says qs (line_in w i) l) e s)
  nth_line j (suc n) (suc k) (m ∷ ls) l (Forall₂.cons s f) (there t) =
      let r = nth_line (suc j) n k ls l f t in
      let e : suc j + k ≡ j + suc k = omega arith in
      (omega (arith, r.0), subst (λ (i : ℕ). Says qs (line_in w i) l) e r.1)
  nth_line j (suc n) zero [] l f t = elim f [ ]
  nth_line j (suc n) (suc k) [] l f t = elim f [ ]

  module _ (n : ℕ) (room : 6 * n ≤ length w) (small : (i : ℕ) → mag (get_or w i (pos 0)) < 2 ^ 63) (ls : List Line) (said : Forall₂ (Says qs) (lines_from w 0 n) ls) where
    id_is : (e : ℕ) → e < n → id_at w e ≡ get_or w (6 * e) (pos 0)
    unfolding id_at
    id_is e h = rw (lt-ltb e (length w / 6) (omega arith))

    line_is : (x : ℤ) → mag x < 2 ^ 63 → (k : ℕ) → last_below (λ e. eqb (id_key (id_at w e)) (id_key x)) n ≡ Some k → LastLine ls x k
    line_is x sx k e =
        let f = last_found (λ e. eqb (id_key (id_at w e)) (id_key x)) n k e in
        let r = line_nth 0 n k ls f.0 said in
        let z : 0 + k ≡ k = omega arith in
        let here-is : get_or w (6 * k) (pos 0) ≡ r.0.id = ap (λ (i : ℕ). get_or w (6 * i) (pos 0)) (sym z) ∙ r.2.id in
        let true-one : eq_z (id_at w k) x ≡ true = same_id (id_at w k) x (id_small w small k) sx ∙ f.1 in
        record {
          at = r.0;
          stands = r.1;
          true_of = sym here-is ∙ sym (id_is k f.0) ∙ eq_z-true (id_at w k) x true-one;
          after = λ m l h s q.
              let b = nth_line 0 n m ls l said s in
              let y : 0 + m ≡ m = omega arith in
              let i : id_at w m ≡ x = id_is m b.0 ∙ ap (λ (i : ℕ). get_or w (6 * i) (pos 0)) (sym y) ∙ b.1.id ∙ q in
              let u : ◌≡◌ {A = Bool} true false = sym (eq-eqb (id_key (id_at w m)) (id_key x) (ap id_key i)) ∙ f.2 m h b.0 in
              let t : ◌≡◌ {A = ℕ} 0 1 = cc in omega arith;
        }

    line_missing : (x : ℤ) → last_below (λ e. eqb (id_key (id_at w e)) (id_key x)) n ≡ None → ¬ Declared ls (node x)
    line_missing x e (borne {k = m} {l = l} s q) =
        let b = nth_line 0 n m ls l said s in
        let y : 0 + m ≡ m = omega arith in
        let i : id_at w m ≡ x = id_is m b.0 ∙ ap (λ (i : ℕ). get_or w (6 * i) (pos 0)) (sym y) ∙ b.1.id ∙ q in
        let u : ◌≡◌ {A = Bool} true false = sym (eq-eqb (id_key (id_at w m)) (id_key x) (ap id_key i)) ∙ last_missing (λ e. eqb (id_key (id_at w e)) (id_key x)) n e m b.0 in
        let t : ◌≡◌ {A = ℕ} 0 1 = cc in omega arith

    -- ---- references

    goes : (r : Ref) → ((x : ℤ) → r ≡ node x → mag x < 2 ^ 63) → (k : ℕ) → target_of w n (leaves_of w n) r ≡ Some k → ToFirst ls (leaves_of w n) r k
    unfolding target_of
    goes (node x) h k e = to_line (line_is x (h x refl) k e)
    goes (pdf v) h k e = go (first_from (λ e. eqb e v) 0 (leaves_of w n)) refl e
      where
        go : (f : Option ℕ) → first_from (λ e. eqb e v) 0 (leaves_of w n) ≡ f → moved n f ≡ Some k → ToFirst ls (leaves_of w n) (pdf v) k
        go (Some r) q e =
            let f = first_found v 0 (leaves_of w n) r q in
            let z : n + r ≡ k = cc in
            let c : length ls + f.0 ≡ k = omega (arith, f.1, as_many said, length_lines w 0 n) in
            subst (λ (i : ℕ). ToFirst ls (leaves_of w n) (pdf v) i) c (to_first f.2)
        go None q e = let u : ◌≡◌ {A = ℕ} 0 1 = cc in absurd (omega arith)

    ref_small : (p : ℕ) (r : Ref) → ref_at w p ≡ r → (x : ℤ) → r ≡ node x → mag x < 2 ^ 63
    unfolding ref_of
    ref_small p r e x q = go (eqb (nat_of (get_or w p (pos 0))) 0) (e ∙ q)
      where
        go : (b : Bool) → cond b (node (get_or w (p + 1) (pos 0))) (pdf (nat_of (get_or w (p + 1) (pos 0)))) ≡ node x → mag x < 2 ^ 63
        go true e = let z : get_or w (p + 1) (pos 0) ≡ x = cc in subst (λ (y : ℤ). mag y < 2 ^ 63) z (small (p + 1))
        go false e = let u : ◌≡◌ {A = ℕ} 0 1 = cc in absurd (omega arith)

    -- a line that goes somewhere
    step_goes : (q : ℕ) (f g : Option ℕ) {y m : ℕ} → step_yes q f g ≡ Ok (sides y m) → (f ≡ Some y) × (g ≡ Some m) × (eqb q 0 ≡ false)
    unfolding step_question
    step_goes q (Some a) (Some b) {y} {m} e = go (eqb q 0) refl e
      where
        go : (c : Bool) → eqb q 0 ≡ c → cond c (Err QuestionRef) (Ok (sides a b)) ≡ Ok (sides y m) → (Some a ≡ Some y) × (Some b ≡ Some m) × (eqb q 0 ≡ false)
        go true p e = let u : ◌≡◌ {A = ℕ} 0 1 = cc in absurd (omega arith)
        go false p e = let s : a ≡ y = grind arith in let t : b ≡ m = grind arith in (ap Some s, ap Some t, p)
    step_goes q (Some a) None e = let u : ◌≡◌ {A = ℕ} 0 1 = cc in absurd (omega arith)
    step_goes q None g e = let u : ◌≡◌ {A = ℕ} 0 1 = cc in absurd (omega arith)

    asked_row : (name : List ℕ) (q : ℕ) → AskedAs qs name q → eqb q 0 ≡ false → LastQuestion qs name (q - 1)
    asked_row name (suc q) (some l) e = let z : q ≡ suc q - 1 = omega arith in subst (λ (i : ℕ). LastQuestion qs name i) z l
    asked_row name zero (none h) e = let u : ◌≡◌ {A = Bool} true false = sym (eq-eqb 0 0 refl) ∙ e in let t : ◌≡◌ {A = ℕ} 0 1 = cc in absurd (omega arith)

    row_is : (j : ℕ) (l : Line) → Says qs (line_in w j) l → {y m : ℕ} → step_in w n (line_in w j) ≡ Ok (sides y m) → LineRow qs (ToFirst ls (leaves_of w n)) l (branch ((line_in w j).question - 1) y m)
    row_is j l s {y} {m} e =
        let g = step_goes (line_in w j).question (target_of w n (leaves_of w n) (line_in w j).yes) (target_of w n (leaves_of w n) (line_in w j).no) e in
        row (asked_row l.question (line_in w j).question s.question g.2)
        (goes l.yes (ref_small (6 * j + 1) l.yes s.yes) y (ap (target_of w n (leaves_of w n)) (sym s.yes) ∙ g.0))
        (goes l.no (ref_small (6 * j + 3) l.no s.no) m (ap (target_of w n (leaves_of w n)) (sym s.no) ∙ g.1))

    abbrev Fronts : ℕ → ℕ → List Line → Type 0
    Fronts j m lt = (front : List Row) × Forall₂ (LineRow qs (ToFirst ls (leaves_of w n))) lt front × (flatten front ≡ record_rows (lines_from w j m) (goals (step_in w n) (lines_from w j m)))

    rows_are : (k j m : ℕ) (lt : List Line) → Forall₂ (Says qs) (lines_from w j m) lt → outcome (step_in w n) k (lines_from w j m) ≡ (Ok tt) → Fronts j m lt
    unfolding lines_from outcome goals record_rows flatten
    rows_are k j zero [] Forall₂.nil e = ([], Forall₂.nil, refl)
    rows_are k j (suc m) (l ∷ lt) (Forall₂.cons s f) e = go (step_in w n (line_in w j)) refl e (rows_are (suc k) (suc j) m lt f)
      where
        go : (a : Result Sides LinkFault) → step_in w n (line_in w j) ≡ a → first k a (outcome (step_in w n) (suc k) (lines_from w (suc j) m)) ≡ (Ok tt)
            → (outcome (step_in w n) (suc k) (lines_from w (suc j) m) ≡ (Ok tt) → Fronts (suc j) m lt)
            → (front : List Row) × Forall₂ (LineRow qs (ToFirst ls (leaves_of w n))) (l ∷ lt) front
            × (flatten front ≡ record_rows (line_in w j ∷ lines_from w (suc j) m) (goals_of a (goals (step_in w n) (lines_from w (suc j) m))))
        go (Ok q) p e r =
            let R = r e in
            (branch ((line_in w j).question - 1) q.yes q.no ∷ R.0, Forall₂.cons (row_is j l s p) R.1, ap (λ t. 0 ∷ ((line_in w j).question - 1) ∷ q.yes ∷ q.no ∷ t) R.2)
        go (Err f) p e r = let u : ◌≡◌ {A = ℕ} 0 1 = cc in absurd (omega arith)
    rows_are k j zero (l ∷ lt) x4 e = elim x4 [ ]
    rows_are k j (suc m) [] x4 e = elim x4 [ ]

    -- the records of the tree
    pub link_done : link_outcome w n ≡ (Ok tt) → NotSingle ls → (rows : List Row) × Records qs (braces ls) rows × (flatten rows ≡ linked_rows w n)
    unfolding link_outcome linked_rows leaves_of
    link_done e h =
        let R = rows_are 0 0 n ls said e in (
          R.0 ++ map leaf (leaves_of w n),
          L.Records.lines (leaves_of w n) h (leaves_ascend (pdfs_of (lines_from w 0 n)))
              (λ v. times-sorted (key_of (λ x. 0)) v (pdfs_of (lines_from w 0 n)) ∙ ap (times v) (pdfs_are (lines_from w 0 n) ls said)) R.1 refl,
          flatten-append R.0 (map leaf (leaves_of w n)) ∙ ap₂ (λ a b. a ++ b) R.2 (flat_leaves (leaves_of w n)),
        )

    -- ---- where linking is refused

    leaf-times : (v : ℕ) → times v (leaves_of w n) ≡ times v (pdfs_of (lines_from w 0 n))
    unfolding leaves_of
    leaf-times v = times-sorted (key_of (λ x. 0)) v (pdfs_of (lines_from w 0 n))

    -- line j goes somewhere
    abbrev GoesAt : ℕ → Type 0
    GoesAt j = (y : ℕ) × (z : ℕ) × (step_in w n (line_in w j) ≡ Ok (sides y z))

    abbrev Stop : ℕ → ℕ → ℕ → Type 0
    Stop k j m = (i : ℕ) × (i < m) × (outcome (step_in w n) k (lines_from w j m) ≡ first (k + i) (step_in w n (line_in w (j + i))) (Ok tt)) × ((b : ℕ) → b < i → GoesAt (j + b))

    stops : (k j m : ℕ) → ¬ (outcome (step_in w n) k (lines_from w j m) ≡ (Ok tt)) → Stop k j m
    unfolding lines_from outcome
    stops k j zero h = absurd (h refl)
    stops k j (suc m) h = go (step_in w n (line_in w j)) refl (stops (suc k) (suc j) m)
      where
        at_once : (a : Result Sides LinkFault) → step_in w n (line_in w j) ≡ a → first k a (outcome (step_in w n) (suc k) (lines_from w (suc j) m)) ≡ first k a (Ok tt) → Stop k j (suc m)
        at_once a p q =
            let z : 0 + k ≡ k = omega arith in
            let x : k + 0 ≡ k = omega arith in
            let y : j + 0 ≡ j = omega arith in (
              0,
              omega arith,
              ap (λ s. first k s (outcome (step_in w n) (suc k) (lines_from w (suc j) m))) p ∙ q ∙ ap (λ s. first k s (Ok tt)) (sym p) ∙ ap₂ (λ (a b : ℕ). first a (step_in w n (line_in w b)) (Ok tt)) (sym x) (sym y),
              λ b l. absurd (omega arith),
            )

        go : (a : Result Sides LinkFault) → step_in w n (line_in w j) ≡ a → (¬ (outcome (step_in w n) (suc k) (lines_from w (suc j) m) ≡ (Ok tt)) → Stop (suc k) (suc j) m) → Stop k j (suc m)
        go (Err f) p r = at_once (Err f) p refl
        go (Ok x) p r =
            let on : outcome (step_in w n) k (lines_from w j (suc m)) ≡ outcome (step_in w n) (suc k) (lines_from w (suc j) m) = ap (λ s. first k s (outcome (step_in w n) (suc k) (lines_from w (suc j) m))) p in
            let R = r (λ q. h (on ∙ q)) in
            let a : suc k + R.0 ≡ k + suc R.0 = omega arith in
            let b : suc j + R.0 ≡ j + suc R.0 = omega arith in
            (suc R.0, omega (arith, R.1), on ∙ R.2 ∙ ap₂ (λ (a b : ℕ). first a (step_in w n (line_in w b)) (Ok tt)) a b, λ c l. before (x.yes, x.no, p) R.3 c l)
          where
            before : GoesAt j → {i : ℕ} → ((b : ℕ) → b < i → GoesAt (suc j + b)) → (c : ℕ) → c < suc i → GoesAt (j + c)
            before g f zero l = let e : j ≡ j + 0 = omega arith in subst GoesAt e g
            before g f (suc c) l = let e : suc j + c ≡ j + suc c = omega arith in subst GoesAt e (f c (omega arith))

    declared : (r : Ref) (k : ℕ) → ToFirst ls (leaves_of w n) r k → Declared ls r
    declared (node x) k (to_line l) = borne l.stands l.true_of
    declared (pdf v) k (to_first f) = a_pdf

    -- a reference of a line that leads nowhere is not declared: a PDF of a line always has a leaf
    undeclared : (r : Ref) → ((v : ℕ) → r ≡ pdf v → 0 < times v (pdfs_of (lines_from w 0 n))) → target_of w n (leaves_of w n) r ≡ None → ¬ Declared ls r
    unfolding target_of
    undeclared (node x) h e = line_missing x e
    undeclared (pdf v) h e = λ d. go (first_from (λ e. eqb e v) 0 (leaves_of w n)) refl e
      where
        go : (f : Option ℕ) → first_from (λ e. eqb e v) 0 (leaves_of w n) ≡ f → moved n f ≡ None → ⊥
        go (Some r) q e = let u : ◌≡◌ {A = ℕ} 0 1 = cc in omega arith
        go None q e = let z : times v (leaves_of w n) ≡ times v (pdfs_of (lines_from w 0 n)) = leaf-times v in omega (arith, first_missing v 0 (leaves_of w n) q, h v refl)

    step_node : (q : ℕ) (f g : Option ℕ) → step_yes q f g ≡ Err NodeRef → (f ≡ None) ⊎ ((y : ℕ) × (f ≡ Some y) × (g ≡ None))
    unfolding step_question
    step_node q None g e = inl refl
    step_node q (Some y) None e = inr (y, refl, refl)
    step_node q (Some y) (Some m) e = go (eqb q 0) e
      where
        go : (c : Bool) → cond c (Err QuestionRef) (Ok (sides y m)) ≡ Err NodeRef → (Some y ≡ None) ⊎ ((x : ℕ) × (Some y ≡ Some x) × (Some m ≡ None))
        go true e = let u : ◌≡◌ {A = ℕ} 0 1 = cc in absurd (omega arith)
        go false e = let u : ◌≡◌ {A = ℕ} 0 1 = cc in absurd (omega arith)

    step_unasked : (q : ℕ) (f g : Option ℕ) → step_yes q f g ≡ Err QuestionRef → (y : ℕ) × (m : ℕ) × (f ≡ Some y) × (g ≡ Some m) × (eqb q 0 ≡ true)
    unfolding step_question
    step_unasked q None g e = let u : ◌≡◌ {A = ℕ} 0 1 = cc in absurd (omega arith)
    step_unasked q (Some y) None e = let u : ◌≡◌ {A = ℕ} 0 1 = cc in absurd (omega arith)
    step_unasked q (Some y) (Some m) e = go (eqb q 0) refl e
      where
        go : (c : Bool) → eqb q 0 ≡ c → cond c (Err QuestionRef) (Ok (sides y m)) ≡ Err QuestionRef → (x : ℕ) × (z : ℕ) × (Some y ≡ Some x) × (Some m ≡ Some z) × (eqb q 0 ≡ true)
        go true p e = (y, m, refl, refl, p)
        go false p e = let u : ◌≡◌ {A = ℕ} 0 1 = cc in absurd (omega arith)

    step_lone : (q : ℕ) (f g : Option ℕ) → ¬ (step_yes q f g ≡ Err LoneNode)
    unfolding step_question
    step_lone q None g e = let u : ◌≡◌ {A = ℕ} 0 1 = cc in omega arith
    step_lone q (Some y) None e = let u : ◌≡◌ {A = ℕ} 0 1 = cc in omega arith
    step_lone q (Some y) (Some m) e = go (eqb q 0) e
      where
        go : (c : Bool) → ¬ (cond c (Err QuestionRef) (Ok (sides y m)) ≡ Err LoneNode)
        go true e = let u : ◌≡◌ {A = ℕ} 0 1 = cc in omega arith
        go false e = let u : ◌≡◌ {A = ℕ} 0 1 = cc in omega arith

    unasked : (name : List ℕ) (q : ℕ) → AskedAs qs name q → eqb q 0 ≡ true → ¬ Asked qs name
    unasked name zero (none h) e = h
    unasked name (suc q) (some l) e = λ a. let z : suc q ≡ 0 = eqb-true (suc q) 0 e in omega arith

    -- a line that goes somewhere has no fault
    no_fault : (j : ℕ) (l : Line) → Says qs (line_in w j) l → GoesAt j → (c : ℕ) → ¬ Fault qs ls l c
    no_fault j l s (y, m, e) c f = go (row_is j l s e) f
      where
        go : {q y m c : ℕ} → LineRow qs (ToFirst ls (leaves_of w n)) l (branch q y m) → Fault qs ls l c → ⊥
        go {q} {y} {m} (row lq gy gn) (yes_undeclared u) = u (declared l.yes y gy)
        go {q} {y} {m} (row lq gy gn) (no_undeclared d u) = u (declared l.no m gn)
        go {q} {y} {m} (row lq gy gn) (not_asked d b u) = u (asked lq.stands lq.true_of)

    in_yes : (i : ℕ) → i < n → (v : ℕ) → (line_in w (0 + i)).yes ≡ pdf v → 0 < times v (pdfs_of (lines_from w 0 n))
    in_yes i h v e = yes_counted w v 0 n i h e

    in_no : (i : ℕ) → i < n → (v : ℕ) → (line_in w (0 + i)).no ≡ pdf v → 0 < times v (pdfs_of (lines_from w 0 n))
    in_no i h v e = no_counted w v 0 n i h e

    module _ (i : ℕ) (h : i < n) (l : Line) (s : Says qs (line_in w (0 + i)) l) where
      yes_goes : (y : ℕ) → target_of w n (leaves_of w n) (line_in w (0 + i)).yes ≡ Some y → Declared ls l.yes
      yes_goes y e = declared l.yes y (goes l.yes (ref_small (6 * (0 + i) + 1) l.yes s.yes) y (ap (target_of w n (leaves_of w n)) (sym s.yes) ∙ e))

      no_goes : (y : ℕ) → target_of w n (leaves_of w n) (line_in w (0 + i)).no ≡ Some y → Declared ls l.no
      no_goes y e = declared l.no y (goes l.no (ref_small (6 * (0 + i) + 3) l.no s.no) y (ap (target_of w n (leaves_of w n)) (sym s.no) ∙ e))

      fault_node : step_in w n (line_in w (0 + i)) ≡ Err NodeRef → Fault qs ls l 21
      fault_node e = go (step_node (line_in w (0 + i)).question (target_of w n (leaves_of w n) (line_in w (0 + i)).yes) (target_of w n (leaves_of w n) (line_in w (0 + i)).no) e)
        where
          go : (target_of w n (leaves_of w n) (line_in w (0 + i)).yes ≡ None) ⊎ ((y : ℕ) × (target_of w n (leaves_of w n) (line_in w (0 + i)).yes ≡ Some y) × (target_of w n (leaves_of w n) (line_in w (0 + i)).no ≡ None)) → Fault qs ls l 21
          go (inl p) = yes_undeclared (undeclared l.yes (λ v q. in_yes i h v (s.yes ∙ q)) (ap (target_of w n (leaves_of w n)) (sym s.yes) ∙ p))
          go (inr (y, p, q)) = no_undeclared (yes_goes y p) (undeclared l.no (λ v z. in_no i h v (s.no ∙ z)) (ap (target_of w n (leaves_of w n)) (sym s.no) ∙ q))

      fault_question : step_in w n (line_in w (0 + i)) ≡ Err QuestionRef → Fault qs ls l 22
      fault_question e =
          let u = step_unasked (line_in w (0 + i)).question (target_of w n (leaves_of w n) (line_in w (0 + i)).yes) (target_of w n (leaves_of w n) (line_in w (0 + i)).no) e in
          not_asked (yes_goes u.0 u.2) (no_goes u.1 u.3) (unasked l.question (line_in w (0 + i)).question s.question u.4)

      fault_at : (f : LinkFault) → step_in w n (line_in w (0 + i)) ≡ Err f → Fault qs ls l (fault_number f)
      fault_at NodeRef e = fault_node e
      fault_at QuestionRef e = fault_question e
      fault_at LoneNode e = absurd (step_lone (line_in w (0 + i)).question (target_of w n (leaves_of w n) (line_in w (0 + i)).yes) (target_of w n (leaves_of w n) (line_in w (0 + i)).no) e)

    refusal : NotSingle ls → (i c : ℕ) → i < n → ((l : Line) → Says qs (line_in w (0 + i)) l → Fault qs ls l c) → ((b : ℕ) → b < i → GoesAt (0 + b)) → Refused qs (braces ls) c i
    refusal h i c l f g =
        let r = line_nth 0 n i ls l said in
        L.Refused.lines h r.1 (f r.0 r.2) (λ m e d b s. no_fault (0 + m) e (nth_line 0 n m ls e said s).1 (g m b) d)

    -- 21 at the first line with an id that no line bears, 22 at the first whose question no QS line has
    pub link_refused : (f : LinkFault) (k : ℕ) → link_outcome w n ≡ Err (line_fault f k) → NotSingle ls → Refused qs (braces ls) (fault_number f) k
    unfolding link_outcome
    link_refused f k e h =
        let S = stops 0 0 n (λ d. let u : ◌≡◌ {A = ℕ} 0 1 = cc in omega arith) in
        go S.0 S.1 S.3 (step_in w n (line_in w (0 + S.0))) refl (sym S.2 ∙ e)
      where
        go : (i : ℕ) → i < n → ((b : ℕ) → b < i → GoesAt (0 + b)) → (a : Result Sides LinkFault) → step_in w n (line_in w (0 + i)) ≡ a → first (0 + i) a (Ok tt) ≡ Err (line_fault f k) → Refused qs (braces ls) (fault_number f) k
        go i l g (Err b) p q =
            let z : 0 + i ≡ k = grind arith in
            let y : i ≡ k = omega arith in
            let v : b ≡ f = grind arith in
            subst (λ (j : ℕ). Refused qs (braces ls) (fault_number f) j) y (refusal h i (fault_number f) l (λ x s. fault_at i l x s f (p ∙ ap Err v)) g)
        go i l g (Ok r) p q = let u : ◌≡◌ {A = ℕ} 0 1 = cc in absurd (omega arith)
