-- The laws of windows: the first of a list, marks in a slice, names in a slice, and what a window says of its lines.
use mathlib.Core.Path.{◌≡◌, refl, sym, ap, ◌∙◌, subst}
use mathlib.Core.Bool.{Bool, true, false, cond, ◌||◌}
use mathlib.Core.List.{List, [], ◌∷◌}
use Prim.Native.Nat.{ℕ, zero, suc, ◌+◌, ◌-◌, ◌≤◌, ◌<◌}
use native.Mathlib.Decide.{dec_lt}
use native.Mathlib.Numerals.{add-one}
use native.Mathlib.Omega.{arith}
use borrow.Author.Tests.{lt-ltb, le-ltb}
use lib.Dec.{ltb}
use lib.IntN.{ℤ}
use lib.ListN.{length, get_or, set, drop, length-set}
use lib.Seq.{get_or-set_same, get_or-set_other}
use Rattle.error.specs.declared.LineFault.{LineFault}
use Rattle.error.specs.Numbers.{line_fault}
use Rattle.std.specs.declared.result.Result.{Result}
use Rattle.tree_line.specs.declared.Branches.{Branches}
use Rattle.text_parts.specs.declared.Span.{Span}
use Rattle.text_parts.specs.declared.Read.{Read}
use Rattle.tree_reference.specs.declared.TreeIndex.{TreeIndex}
use Rattle.std.specs.declared.option.Option.{Option}
use Rattle.std.specs.Prelude.{Some, None, Ok, Err}
use Rattle.written.specs.Bytes.{same, blank, in_name}
use Rattle.written.specs.Said.{QuestionPlace}
use Rattle.written.specs.Linking.{Nth, here, there}
use Rattle.written.proofs.Walk.{nth_once}
use Rattle.laws.proofs.Nth.{nth_inside, nth_of}
use Rattle.laws.specs.Steps.{Ending, done_at, broken_at}
use Rattle.laws.specs.Runs.{stop}
use Rattle.text_numbers.specs.Answers.{signed_at}
use Rattle.text_spaces.specs.Spaces.{name_of, name_at, close_at, line_parting_at}
use Rattle.tree_line.specs.Lines.{branches_at, line_branched, line_named, line_numbered, line_at, line_parted, line_closed, after_line, line_found, line_step_at, lines_at}
use Rattle.tree_line.specs.declared.LineStep.{LineStep}
use Rattle.tree_line.specs.declared.Line.{Line}
use Rattle.tree_line.specs.declared.LineStep.TheVariants as answer
use Rattle.tree_body.specs.declared.TreeHead.{TreeHead}
use Rattle.tree_body.specs.declared.TreeHead.TheVariants as head
use Rattle.text_parts.specs.Parts.{part_inside, read_to, cut}
use Rattle.link_find.specs.Find.{last_from, named}
use Rattle.link_alone.specs.Alone.{single_in}
use Rattle.link_stray.specs.Stray.{first_from, strays}
use Rattle.link_shape.specs.Shapes.{shape_single, shape_ending, shape_braces, shape_head}
use Rattle.link_shape.specs.declared.Shape.{Shape}
use Rattle.link_shape.specs.declared.Shape.TheVariants as shape
use Rattle.link_names.specs.Names.{FirstOf, off, none, name_from, name_in, heard}
use Rattle.link_window.specs.Windows.{Holds, Taken, more, all, Filling, taken_of, behind_of, no_row, unheard, Windowed, missing, next, clean, fault_lines, fault_alone, fault_single, fault_ending, fault_braces, fault_head}
use Rattle.error.specs.declared.LinkFault.TheVariants.{NodeRef, QuestionRef}
use Rattle.link_window.specs.declared.Filled.{Filled}
use Rattle.link_window.specs.declared.Filled.TheVariants.{More, All}
use Rattle.link_window.specs.declared.Window.{Window}
use Rattle.link_window.specs.declared.Window.TheVariants.{Missing, Next, Clean}

-- ---- the first of a list

module _ {A : Type 0} (p : A → Bool) where
  pub first_is : (k : ℕ) {xs : List A} {m : ℕ} {x : A} → Nth xs m x → p x ≡ true → ((j : ℕ) (y : A) → j < m → Nth xs j y → p y ≡ false) → first_from p k xs ≡ Some (k + m)
  unfolding first_from
  first_is k (here {x = x} {xs = xs}) t h = let z : k ≡ k + 0 = omega arith in ap (λ (b : Bool). cond b (Some k) (first_from p (suc k) xs)) t ∙ ap Some z
  first_is k (there {y = y} {xs = xs} {k = m} n) t h =
      let z : suc k + m ≡ k + suc m = omega arith in
      ap (λ (b : Bool). cond b (Some k) (first_from p (suc k) xs)) (h 0 y (omega arith) here) ∙ first_is (suc k) n t (λ j w l o. h (suc j) w (omega arith) (there o)) ∙ ap Some z

  pub first_off : (k : ℕ) (xs : List A) → ((m : ℕ) (x : A) → Nth xs m x → p x ≡ false) → first_from p k xs ≡ None
  unfolding first_from
  first_off k [] h = refl
  first_off k (x ∷ xs) h = ap (λ (b : Bool). cond b (Some k) (first_from p (suc k) xs)) (h 0 x here) ∙ first_off (suc k) xs (λ m y n. h (suc m) y (there n))

  pub first_drop : (k n : ℕ) (xs : List A) → n ≤ length xs → ((m : ℕ) (x : A) → m < n → Nth xs m x → p x ≡ false) → first_from p k xs ≡ first_from p (k + n) (drop n xs)
  unfolding first_from
  first_drop k zero xs l h = let z : k ≡ k + 0 = omega arith in ap (λ (i : ℕ). first_from p i xs) z
  first_drop k (suc n) [] l h = absurd (omega arith)
  first_drop k (suc n) (x ∷ xs) l h =
      let z : suc k + n ≡ k + suc n = omega arith in
      ap (λ (b : Bool). cond b (Some k) (first_from p (suc k) xs)) (h 0 x (omega arith) here)
      ∙ first_drop (suc k) n xs (omega arith) (λ m y o g. h (suc m) y (omega arith) (there g)) ∙ ap (λ (i : ℕ). first_from p i (drop n xs)) z

-- ---- names taken

drop_nth : {A : Type 0} (k : ℕ) (ls : List A) {x : A} {xs : List A} → drop k ls ≡ x ∷ xs → Nth ls k x × (drop (suc k) ls ≡ xs)
drop_nth zero [] e = let z : ◌≡◌ {A = ℕ} 0 1 = ap length e ∙ absurd (omega (arith, ap length e)) in absurd (omega arith)
drop_nth zero (y ∷ ls) {x} {xs} e = let a : y ≡ x = cc in let b : ls ≡ xs = cc in (subst (λ z. Nth (y ∷ ls) zero z) a here, b)
drop_nth (suc k) [] e = absurd (omega (arith, ap length e))
drop_nth (suc k) (y ∷ ls) e = let r = drop_nth k ls e in (there r.0, r.1)

drop-nil : {A : Type 0} (k : ℕ) (ls : List A) → drop k ls ≡ [] → length ls ≤ k
drop-nil zero [] e = omega arith
drop-nil zero (y ∷ ls) e = absurd (omega (arith, ap length e))
drop-nil (suc k) [] e = omega arith
drop-nil (suc k) (y ∷ ls) e = omega (arith, drop-nil k ls e)

-- the length of a line's name is told by where it begins
name_long : (s : List ℕ) (i : ℕ) {b n j : ℕ} → name_at s i ≡ Some (read_to (cut b n) j) → stop in_name s b - b ≡ n
unfolding name_at name_of
name_long s i {b} {n} {j} e = go (ltb i (stop blank s i)) (ltb (stop blank s i) (stop in_name s (stop blank s i))) (ltb (stop in_name s (stop blank s i)) (stop blank s (stop in_name s (stop blank s i)))) e
  where
    go : (x y z : Bool)
        → cond x (cond y (cond z (Some (read_to (cut (stop blank s i) (stop in_name s (stop blank s i) - stop blank s i)) (stop blank s (stop in_name s (stop blank s i))))) None) None) None ≡ Some (read_to (cut b n) j)
        → stop in_name s b - b ≡ n
    go true true true e =
        let u : b ≡ stop blank s i = grind arith in
        let v : stop in_name s (stop blank s i) - stop blank s i ≡ n = grind arith in
        ap (λ (m : ℕ). stop in_name s m - m) u ∙ v
    go true true false e = let u : ◌≡◌ {A = ℕ} 0 1 = cc in absurd (omega arith)
    go true false z e = let u : ◌≡◌ {A = ℕ} 0 1 = cc in absurd (omega arith)
    go false y z e = let u : ◌≡◌ {A = ℕ} 0 1 = cc in absurd (omega arith)

line_long : (s : List ℕ) (i : ℕ) {l : Line} {e : ℕ} → line_at s i ≡ Some (read_to l e) → stop in_name s l.start - l.start ≡ l.len
unfolding line_at
line_long s i {l} {e} h = numbered (signed_at s i) h
  where
    branched : (x : ℤ) (b n : ℕ) (t : Option (Read Branches)) → stop in_name s b - b ≡ n → line_branched x b n t ≡ Some (read_to l e) → stop in_name s l.start - l.start ≡ l.len
    branched x b n (Some r) q h = let u : record { id = x; start = b; len = n; no = r.value.no; yes = r.value.yes } ≡ l = grind arith in subst (λ (m : Line). stop in_name s m.start - m.start ≡ m.len) u q
    branched x b n None q h = let u : ◌≡◌ {A = ℕ} 0 1 = cc in absurd (omega arith)

    called : (x : ℤ) (k : ℕ) (t : Option (Read Span)) → name_at s k ≡ t → line_named s x t ≡ Some (read_to l e) → stop in_name s l.start - l.start ≡ l.len
    called x k (Some r) q h = branched x r.value.start r.value.len (branches_at s r.next) (name_long s k q) h
    called x k None q h = let u : ◌≡◌ {A = ℕ} 0 1 = cc in absurd (omega arith)

    numbered : (t : Option (Read ℤ)) → line_numbered s t ≡ Some (read_to l e) → stop in_name s l.start - l.start ≡ l.len
    numbered (Some r) h = called r.value r.next (name_at s r.next) refl h
    numbered None h = let u : ◌≡◌ {A = ℕ} 0 1 = cc in absurd (omega arith)

-- of a line that was read
abbrev pub Long : List ℕ → LineStep → Type 0
Long s (answer.Next l j) = stop in_name s l.start - l.start ≡ l.len
Long s (answer.Last l j) = stop in_name s l.start - l.start ≡ l.len
Long s answer.Broken = ◌≡◌ {A = ℕ} 0 0

step_long : (s : List ℕ) (i : ℕ) → Long s (line_step_at s i)
unfolding line_step_at after_line
step_long s i = found (line_at s i) refl
  where
    parted : (l : Line) (t : Option ℕ) → stop in_name s l.start - l.start ≡ l.len → Long s (line_parted l t)
    parted l (Some j) q = q
    parted l None q = refl

    closed : (l : Line) (e : ℕ) (t : Option ℕ) → stop in_name s l.start - l.start ≡ l.len → Long s (line_closed s l e t)
    closed l e (Some j) q = q
    closed l e None q = parted l (line_parting_at s e) q

    found : (t : Option (Read Line)) → line_at s i ≡ t → Long s (line_found s t)
    found (Some r) h = closed r.value r.next (close_at s r.next) (line_long s i h)
    found None h = refl

pub long_as : (s : List ℕ) (i : ℕ) {t : LineStep} → t ≡ line_step_at s i → Long s t
long_as s i e = subst (Long s) (sym e) (step_long s i)

module _ (s : List ℕ) (first : ℕ) (names₀ : List ℕ) where
  -- k names are taken, and the next line stands at i
  pub record Taking (names : List ℕ) (i k : ℕ) : Type 0 where
    pub long : length names ≡ length names₀
    pub holds : Holds s names k (lines_at s first).items
    pub rest : drop k (lines_at s first).items ≡ (lines_at s i).items
    pub inside : k ≤ length (lines_at s first).items
    pub up : k + first ≤ i
    pub within : 0 < k → i ≤ length s
    pub most : k ≤ 40

  pub taking_none : Taking names₀ first 0
  taking_none = record { long = refl; holds = λ m l n h. absurd (omega arith); rest = refl; inside = omega arith; up = omega arith; within = λ h. absurd (omega arith); most = omega arith }

  module _ {names : List ℕ} {i k : ℕ} (w : Taking names i k) {l : Line} {ls : List Line} (e : (lines_at s i).items ≡ l ∷ ls) (size : stop in_name s l.start - l.start ≡ l.len) (room : k < length names) where
    put_holds : Holds s (set names k l.start) (k + 1) (lines_at s first).items
    put_holds m x n h = go (dec_lt m k)
      where
        go : Dec (m < k) → (get_or (set names k l.start) m 0 ≡ x.start) × (stop in_name s x.start - x.start ≡ x.len)
        go (yes g) = let r = w.holds m x n g in (get_or-set_other names k m l.start 0 (λ z. omega (arith, z)) ∙ r.0, r.1)
        go (no g) =
            let z : m ≡ k = omega arith in
            let q : x ≡ l = nth_once (subst (λ (j : ℕ). Nth (lines_at s first).items j x) z n) (drop_nth k (lines_at s first).items (w.rest ∙ e)).0 in (
              ap (λ (j : ℕ). get_or (set names k l.start) j 0) z ∙ get_or-set_same names k l.start 0 room ∙ ap (λ (y : Line). y.start) (sym q),
              subst (λ (y : Line). stop in_name s y.start - y.start ≡ y.len) (sym q) size,
            )

    pub taking_on : {names' : List ℕ} {j : ℕ} → names' ≡ set names k l.start → ls ≡ (lines_at s j).items → 3 + i ≤ j → j ≤ length s → k < 40 → Taking names' j (k + 1)
    taking_on {names'} {j} q z a b f =
        subst (λ (t : List ℕ). Taking t j (k + 1)) (sym q)
        (record {
          long = length-set names k l.start ∙ w.long;
          holds = put_holds;
          rest = ap (λ (n : ℕ). drop n (lines_at s first).items) (add-one k) ∙ (drop_nth k (lines_at s first).items (w.rest ∙ e)).1 ∙ z;
          most = omega arith;
          inside = omega (arith, nth_inside (drop_nth k (lines_at s first).items (w.rest ∙ e)).0);
          up = omega (arith, w.up);
          within = λ h. b;
        })

    pub taking_last : {names' : List ℕ} → names' ≡ set names k l.start → ls ≡ [] → k < 40 → Filling s first names₀ (All (k + 1)) names'
    taking_last {names'} q z h =
        subst (λ (t : List ℕ). Filling s first names₀ (All (k + 1)) t) (sym q)
        (record {
          long = length-set names k l.start ∙ w.long;
          taken = all put_holds
              (let r = drop_nth k (lines_at s first).items (w.rest ∙ e) in let g = nth_inside r.0 in let f = drop-nil (suc k) (lines_at s first).items (r.1 ∙ z) in omega (arith, g, f))
              (omega arith);
        })

  module _ {names : List ℕ} {i k : ℕ} (w : Taking names i k) where
    pub taking_broken : (lines_at s i).items ≡ [] → k < 40 → Filling s first names₀ (All k) names
    taking_broken z h = record { long = w.long; taken = all w.holds (let f = drop-nil k (lines_at s first).items (w.rest ∙ z) in omega (arith, f, w.inside)) (omega arith) }

    pub taking_end : 40 ≤ k → Filling s first names₀ (More i) names
    taking_end h =
        let z : k ≡ 40 = omega (arith, w.most) in
        record {
          long = w.long;
          taken = more (subst (λ (n : ℕ). Holds s names n (lines_at s first).items) z w.holds) (sym (ap (λ (n : ℕ). drop n (lines_at s first).items) z) ∙ w.rest) (omega (arith, w.inside)) (omega (arith, w.up)) (w.within (omega arith));
        }

-- ---- a name is heard where a question of it is found

module _ (s w : List ℕ) where
  found_stays : (k : ℕ) (f : Option ℕ) (qs : List QuestionPlace) → no_row f ≡ false → no_row (last_from (named s w) k f qs) ≡ false
  unfolding last_from
  found_stays k f [] h = h
  found_stays k f (q ∷ qs) h = found_stays (suc k) (cond (named s w q) (Some k) f) qs (go (named s w q))
    where
      go : (b : Bool) → no_row (cond b (Some k) f) ≡ false
      go true = refl
      go false = h

  heard-found : (k : ℕ) (f : Option ℕ) (qs : List QuestionPlace) → heard s w qs ≡ true → no_row (last_from (named s w) k f qs) ≡ false
  unfolding last_from heard
  heard-found k f [] h = let z : ◌≡◌ {A = ℕ} 0 1 = cc in absurd (omega arith)
  heard-found k f (q ∷ qs) h = go (named s w q) refl h (λ g. heard-found (suc k) (cond (named s w q) (Some k) f) qs g)
    where
      go : (b : Bool) → named s w q ≡ b → (b || heard s w qs) ≡ true → (heard s w qs ≡ true → no_row (last_from (named s w) (suc k) (cond (named s w q) (Some k) f) qs) ≡ false)
          → no_row (last_from (named s w) (suc k) (cond (named s w q) (Some k) f) qs) ≡ false
      go true e g r = found_stays (suc k) (cond (named s w q) (Some k) f) qs (ap (λ (b : Bool). no_row (cond b (Some k) f)) e)
      go false e g r = r g

  unheard_kept : (k : ℕ) (f : Option ℕ) (qs : List QuestionPlace) → heard s w qs ≡ false → no_row (last_from (named s w) k f qs) ≡ no_row f
  unfolding last_from heard
  unheard_kept k f [] h = refl
  unheard_kept k f (q ∷ qs) h = go (named s w q) refl h (λ g. unheard_kept (suc k) (cond (named s w q) (Some k) f) qs g)
    where
      go : (b : Bool) → named s w q ≡ b → (b || heard s w qs) ≡ false → (heard s w qs ≡ false → no_row (last_from (named s w) (suc k) (cond (named s w q) (Some k) f) qs) ≡ no_row (cond (named s w q) (Some k) f))
          → no_row (last_from (named s w) (suc k) (cond (named s w q) (Some k) f) qs) ≡ no_row f
      go true e g r = let z : ◌≡◌ {A = ℕ} 0 1 = cc in absurd (omega arith)
      go false e g r = r g ∙ ap (λ (b : Bool). no_row (cond b (Some k) f)) e

module _ (s names : List ℕ) (qs : List QuestionPlace) {n : ℕ} {ls : List Line} (h : Holds s names n ls) where
  name_is : {j : ℕ} {l : Line} → Nth ls j l → j < n → name_in s names j ≡ part_inside s l.start l.len
  name_is {j} {l} w g = let r = h j l w g in ap (name_from s) r.0 ∙ ap (part_inside s l.start) r.1

  pub is_heard : {j : ℕ} {l : Line} → Nth ls j l → j < n → heard s (name_in s names j) qs ≡ true → unheard s qs l ≡ false
  is_heard {j} {l} w g e = heard-found s (part_inside s l.start l.len) 0 None qs (sym (ap (λ (x : List ℕ). heard s x qs) (name_is w g)) ∙ e)

  pub is_unheard : {j : ℕ} {l : Line} → Nth ls j l → j < n → heard s (name_in s names j) qs ≡ false → unheard s qs l ≡ true
  is_unheard {j} {l} w g e = unheard_kept s (part_inside s l.start l.len) 0 None qs (sym (ap (λ (x : List ℕ). heard s x qs) (name_is w g)) ∙ e)

-- ---- a window

module _ (s names : List ℕ) (qs : List QuestionPlace) (i : ℕ) where
  of_missing : {n j : ℕ} → Holds s names n (lines_at s i).items → n ≤ length (lines_at s i).items → n ≤ 40 → {r : Option ℕ} → FirstOf (λ (m : ℕ). heard s (name_in s names m) qs) n r → r ≡ Some j → Windowed s qs i (Missing j)
  of_missing {n} {j} h a b (off {j = k} l e f) z =
      let q : k ≡ j = cc in
      let w = nth_of (lines_at s i).items k (omega arith) in
      subst (λ (x : ℕ). Windowed s qs i (Missing x)) q (missing w.1 (is_unheard s names qs h w.1 l e) (omega arith) (λ m x g o. is_heard s names qs h o (omega arith) (f m g)))
  of_missing h a b (none f) z = let y : ◌≡◌ {A = ℕ} 0 1 = cc in absurd (omega arith)

  all_heard : {n : ℕ} → Holds s names n (lines_at s i).items → {r : Option ℕ} → FirstOf (λ (m : ℕ). heard s (name_in s names m) qs) n r → r ≡ None → (m : ℕ) (e : Line) → m < n → Nth (lines_at s i).items m e → unheard s qs e ≡ false
  all_heard h (off l e f) z m x g o = let y : ◌≡◌ {A = ℕ} 0 1 = cc in absurd (omega arith)
  all_heard h (none f) z m x g o = is_heard s names qs h o g (f m g)

  -- what was taken, and a question of it that isn't there
  pub window_missing : {f : Filled} {n j : ℕ} {r : Option ℕ} → Taken s i names f → n ≡ taken_of f → FirstOf (λ (m : ℕ). heard s (name_in s names m) qs) n r → r ≡ Some j → Windowed s qs i (Missing j)
  window_missing {r = r} (more h d a b c) e g z = of_missing h a (omega arith) (subst (λ (x : ℕ). FirstOf (λ (m : ℕ). heard s (name_in s names m) qs) x r) e g) z
  window_missing {r = r} (all h a b) e g z = of_missing h (omega arith) b (subst (λ (x : ℕ). FirstOf (λ (m : ℕ). heard s (name_in s names m) qs) x r) e g) z

  -- and all that are
  window_behind : {f : Filled} {r : Option ℕ} → Taken s i names f → FirstOf (λ (m : ℕ). heard s (name_in s names m) qs) (taken_of f) r → r ≡ None → Windowed s qs i (behind_of f)
  window_behind (more h d a b c) g z = next (λ m x l o. all_heard h g z m x l o) d a b c
  window_behind (all h a b) g z = clean (λ m x o. all_heard h g z m x (omega (arith, nth_inside o)) o)

  pub window_clear : {f : Filled} {n : ℕ} {r : Option ℕ} {w : Window} → Taken s i names f → n ≡ taken_of f → FirstOf (λ (m : ℕ). heard s (name_in s names m) qs) n r → r ≡ None → w ≡ behind_of f → Windowed s qs i w
  window_clear {f = f} {r = r} t e g z q = subst (Windowed s qs i) (sym q) (window_behind t (subst (λ (x : ℕ). FirstOf (λ (m : ℕ). heard s (name_in s names m) qs) x r) e g) z)

pub taken_few : {s names : List ℕ} {i n : ℕ} {f : Filled} → Taken s i names f → n ≡ taken_of f → n ≤ 40
taken_few (more h d a b c) e = omega arith
taken_few (all h a b) e = omega arith

-- ---- window by window

module _ (s : List ℕ) (qs : List QuestionPlace) (first : ℕ) where
  pub record Going (i k : ℕ) : Type 0 where
    pub same : first_from (unheard s qs) k (lines_at s i).items ≡ first_from (unheard s qs) 0 (lines_at s first).items
    pub few : k ≤ i
    pub within : 0 < k → i ≤ length s

  pub going_none : Going first 0
  going_none = record { same = refl; few = omega arith; within = λ h. absurd (omega arith) }

  module _ {i k : ℕ} (g : Going i k) {w : _} (h : Windowed s qs i w) where
    pub going_small : {j : ℕ} → w ≡ Missing j → (j < 40) × (k ≤ length s)
    going_small {j} e = go h e
      where
        few : Dec (0 < k) → k ≤ length s
        few (yes p) = omega (arith, g.few, g.within p)
        few (no p) = omega arith

        go : {w : _} → Windowed s qs i w → w ≡ Missing j → (j < 40) × (k ≤ length s)
        go (missing {j = m} a b c d) e = let q : m ≡ j = cc in (omega arith, few (dec_lt 0 k))
        go (next {j = m} a b c d f) e = let y : ◌≡◌ {A = ℕ} 0 1 = cc in absurd (omega arith)
        go (clean a) e = let y : ◌≡◌ {A = ℕ} 0 1 = cc in absurd (omega arith)

    pub going_missing : {j : ℕ} → w ≡ Missing j → Some (k + j) ≡ first_from (unheard s qs) 0 (lines_at s first).items
    going_missing {j} e = go h e
      where
        go : {w : _} → Windowed s qs i w → w ≡ Missing j → Some (k + j) ≡ first_from (unheard s qs) 0 (lines_at s first).items
        go (missing {j = m} a b c d) e = let q : k + j ≡ k + m = ap (λ (x : ℕ). k + x) cc in ap Some q ∙ sym (first_is (unheard s qs) k a b d) ∙ g.same
        go (next {j = m} a b c d f) e = let y : ◌≡◌ {A = ℕ} 0 1 = cc in absurd (omega arith)
        go (clean a) e = let y : ◌≡◌ {A = ℕ} 0 1 = cc in absurd (omega arith)

    pub going_up : {j : ℕ} → w ≡ Next j → (40 + i ≤ j) × (j ≤ length s)
    going_up {j} e = go h e
      where
        go : {w : _} → Windowed s qs i w → w ≡ Next j → (40 + i ≤ j) × (j ≤ length s)
        go (missing a b c d) e = let y : ◌≡◌ {A = ℕ} 0 1 = cc in absurd (omega arith)
        go (next {j = m} a b c d f) e = let q : m ≡ j = cc in (omega arith, omega arith)
        go (clean a) e = let y : ◌≡◌ {A = ℕ} 0 1 = cc in absurd (omega arith)

    pub going_next : {j : ℕ} → w ≡ Next j → Going j (k + 40)
    going_next {j} e = go h e
      where
        go : {w : _} → Windowed s qs i w → w ≡ Next j → Going j (k + 40)
        go (missing a b c d) e = let y : ◌≡◌ {A = ℕ} 0 1 = cc in absurd (omega arith)
        go (next {j = m} a b c d f) e =
            let q : m ≡ j = cc in
            subst (λ (x : ℕ). Going x (k + 40)) q
            (record { same = sym (ap (first_from (unheard s qs) (k + 40)) b) ∙ sym (first_drop (unheard s qs) k 40 (lines_at s i).items c a) ∙ g.same; few = omega (arith, g.few); within = λ p. f })
        go (clean a) e = let y : ◌≡◌ {A = ℕ} 0 1 = cc in absurd (omega arith)

    pub going_clean : w ≡ Clean → None ≡ first_from (unheard s qs) 0 (lines_at s first).items
    going_clean e = go h e
      where
        go : {w : _} → Windowed s qs i w → w ≡ Clean → None ≡ first_from (unheard s qs) 0 (lines_at s first).items
        go (missing a b c d) e = let y : ◌≡◌ {A = ℕ} 0 1 = cc in absurd (omega arith)
        go (next {j = m} a b c d f) e = let y : ◌≡◌ {A = ℕ} 0 1 = cc in absurd (omega arith)
        go (clean a) e = sym (first_off (unheard s qs) k (lines_at s i).items a) ∙ g.same

-- ---- the lower line

pub lower_question : {a b : ℕ} → b < a → Err (line_fault QuestionRef b) ≡ fault_lines (Some a) (Some b)
lower_question {a} {b} h = sym (ap (λ (x : Bool). cond x (Err (line_fault QuestionRef b)) (Err (line_fault NodeRef a))) (lt-ltb b a h))

pub lower_node : {a b : ℕ} → a ≤ b → Err (line_fault NodeRef a) ≡ fault_lines (Some a) (Some b)
lower_node {a} {b} h = sym (ap (λ (x : Bool). cond x (Err (line_fault QuestionRef b)) (Err (line_fault NodeRef a))) (le-ltb b a h))

-- ---- a tree, by its shape

abbrev pub fault_shape : List ℕ → List QuestionPlace → Shape → Result Unit LineFault
fault_shape s qs (shape.One x n) = fault_alone x
fault_shape s qs shape.Empty = (Ok tt)
fault_shape s qs (shape.Lines f n) = fault_lines (first_from (strays (lines_at s f).items) 0 (lines_at s f).items) (first_from (unheard s qs) 0 (lines_at s f).items)
fault_shape s qs shape.Broken = (Ok tt)

pub fault_shape_lem : (s : List ℕ) (qs : List QuestionPlace) (h : TreeHead) → fault_shape s qs (shape_head s h) ≡ fault_head s qs h
unfolding shape_braces fault_braces
fault_shape_lem s qs (head.Lone x r e) = refl
fault_shape_lem s qs (head.Empty x e) = refl
fault_shape_lem s qs head.NoTree = refl
fault_shape_lem s qs (head.Lines x f) = go (lines_at s f).ending
  where
    one : (t : Option TreeIndex) → fault_shape s qs (shape_single f (length (lines_at s f).items) t) ≡ fault_single s qs (lines_at s f).items t
    one (Some y) = refl
    one None = refl

    go : (e : Ending) → fault_shape s qs (shape_ending f (lines_at s f).items e) ≡ fault_ending s qs (lines_at s f).items e
    go (done_at e) = one (single_in (lines_at s f).items)
    go (broken_at e) = refl

-- ---- how far the windows still have to go

abbrev pub room_behind : ℕ → Window → ℕ
room_behind n (Next j) = suc (n - j)
room_behind n (Missing j) = 0
room_behind n Clean = 0

pub window_less : {s : List ℕ} {qs : List QuestionPlace} {i : ℕ} {w : Window} → Windowed s qs i w → i ≤ length s → room_behind (length s) w < suc (length s - i)
window_less (missing a b c d) h = omega arith
window_less (next a b c d e) h = omega arith
window_less (clean a) h = omega arith
