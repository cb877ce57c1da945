-- The laws of judging lines: a turn of the loop leaves the answer as it is.
use mathlib.Core.Path.{◌≡◌, refl, sym, ap, ap₂, ◌∙◌}
use mathlib.Core.Bool.{Bool, true, false, cond, ◌&&◌}
use mathlib.Core.List.{List, [], ◌∷◌}
use Prim.Native.Nat.{ℕ, suc, ◌+◌, ◌≤◌, ◌<◌}
use native.Mathlib.Numerals.{add-one}
use native.Mathlib.Omega.{arith}
use lib.ListN.{length}
use Rattle.error.specs.declared.LineFault.{LineFault}
use Rattle.error.specs.Numbers.{line_fault}
use Rattle.std.specs.declared.result.Result.{Result}
use Rattle.text_parts.specs.Parts.{read_to}
use Rattle.tree_reference.specs.declared.TreeIndex.{TreeIndex}
use Rattle.std.specs.declared.option.Option.{Option}
use Rattle.std.specs.Prelude.{Some, None, Ok, Err}
use Rattle.written.specs.Said.{QuestionPlace}
use Rattle.error.specs.declared.LinkFault.{LinkFault}
use Rattle.tree_reference.specs.References.{same_index}
use Rattle.tree_line.specs.Lines.{line_step_at, lines_at}
use Rattle.tree_line.specs.declared.Line.{Line}
use Rattle.tree_line.specs.declared.LineStep.TheVariants as answer
use Rattle.tree_survey_lines.specs.Counts.{lines_counted, line_count}
use Rattle.tree_survey_lines.proofs.Counting.{items_next, items_last, items_broken, counted, not_counted}
use Rattle.link_alone.specs.Alone.{link_in, judged_line, onward, ended, judged_lines, single_in, judged_single, judged_ending, judged_braces}

module _ (s : List ℕ) (qs : List QuestionPlace) (ls : List Line) (R : List ℕ) where
  -- what is still to be judged comes to what is judged in all
  pub record Going (i k : ℕ) (b : Bool) : Type 0 where
    pub same : judged_lines s qs ls R k b (lines_at s i).items ≡ judged_lines s qs ls R 0 true ls
    pub few : k ≤ i

  module _ {i k : ℕ} {b : Bool} (g : Going i k b) {l : Line} where
    module _ {j : ℕ} (e : answer.Next l j ≡ line_step_at s i) {a : Result Bool LineFault} (h : a ≡ judged_line R k (link_in s qs ls l)) where
      stepped : onward (λ x. judged_lines s qs ls R (suc k) (b && x) (lines_at s j).items) a ≡ judged_lines s qs ls R 0 true ls
      unfolding judged_lines
      stepped =
          ap (onward (λ x. judged_lines s qs ls R (suc k) (b && x) (lines_at s j).items)) h ∙ sym (ap (judged_lines s qs ls R k b) (items_next s i e)) ∙ g.same

      pub judged_on : {f b' : Bool} → Ok f ≡ a → b' ≡ b && f → i < j → Going j (k + 1) b'
      judged_on {f} {b'} p q m =
          record {
            same =
                ap₂ (λ n c. judged_lines s qs ls R n c (lines_at s j).items) (add-one k) q
                ∙ ap (onward (λ x. judged_lines s qs ls R (suc k) (b && x) (lines_at s j).items)) p ∙ stepped;
            few = omega (arith, g.few);
          }

      pub judged_refused : {f : LinkFault} {m : ℕ} → Err (line_fault f m) ≡ a → Err (line_fault f m) ≡ judged_lines s qs ls R 0 true ls
      judged_refused p = ap (onward (λ x. judged_lines s qs ls R (suc k) (b && x) (lines_at s j).items)) p ∙ stepped

    pub judged_last : {j : ℕ} → answer.Last l j ≡ line_step_at s i → {a r : Result Bool LineFault} → a ≡ judged_line R k (link_in s qs ls l) → r ≡ ended b a → r ≡ judged_lines s qs ls R 0 true ls
    unfolding judged_lines
    judged_last e h q = q ∙ ap (ended b) h ∙ sym (ap (judged_lines s qs ls R k b) (items_last s i e)) ∙ g.same

  pub judged_none : {i k : ℕ} {b : Bool} → Going i k b → answer.Broken ≡ line_step_at s i → Ok b ≡ judged_lines s qs ls R 0 true ls
  unfolding judged_lines
  judged_none {i} {k} {b} g e = sym (ap (judged_lines s qs ls R k b) (items_broken s i e)) ∙ g.same

-- ---- one reference

pub one_same : (l : Line) {b : Bool} → b ≡ same_index l.no l.yes → b ≡ true → Some l.yes ≡ single_in (l ∷ [])
one_same l e h = sym (ap (λ (x : Bool). cond x (Some l.yes) None) (sym e ∙ h))

pub one_other : (l : Line) {b : Bool} → b ≡ same_index l.no l.yes → b ≡ false → None ≡ single_in (l ∷ [])
one_other l e h = sym (ap (λ (x : Bool). cond x (Some l.yes) None) (sym e ∙ h))

several : (ls : List Line) → ¬ (length ls ≡ 1) → None ≡ single_in ls
several [] h = refl
several (l ∷ []) h = absurd (h refl)
several (l ∷ (k ∷ ls)) h = refl

module _ (s : List ℕ) (i n : ℕ) (p : n ≡ length (lines_at s i).items) where
  pub single_many : ¬ (n ≡ 1) → None ≡ single_in (lines_at s i).items
  single_many h = several (lines_at s i).items (λ e. h (p ∙ e))

  one_alone : (l : Line) (rest : List Line) → (lines_at s i).items ≡ l ∷ rest → n ≡ 1 → (lines_at s i).items ≡ l ∷ []
  one_alone l [] e h = e
  one_alone l (k ∷ ls) e h = absurd (omega (arith, ap length e, p))

  pub single_on : n ≡ 1 → {l : Line} {j : ℕ} {r : Option TreeIndex} → answer.Next l j ≡ line_step_at s i → r ≡ single_in (l ∷ []) → r ≡ single_in (lines_at s i).items
  single_on h {l} {j} e q = q ∙ sym (ap single_in (one_alone l (lines_at s j).items (items_next s i e) h))

  pub single_last : {l : Line} {j : ℕ} {r : Option TreeIndex} → answer.Last l j ≡ line_step_at s i → r ≡ single_in (l ∷ []) → r ≡ single_in (lines_at s i).items
  single_last e q = q ∙ sym (ap single_in (items_last s i e))

  pub single_broken : answer.Broken ≡ line_step_at s i → None ≡ single_in (lines_at s i).items
  single_broken e = sym (ap single_in (items_broken s i e))

-- ---- a tree in braces

module _ (s : List ℕ) (qs : List QuestionPlace) (R : List ℕ) (i : ℕ) where
  module _ {n m e : ℕ} (h : Some (read_to (line_count n m) e) ≡ lines_counted 0 0 (lines_at s i)) where
    pub counted_many : n ≡ length (lines_at s i).items
    counted_many = sym (counted s i n m e h).lines

    pub braces_are : {r : Result Bool LineFault} (t : Option TreeIndex) → t ≡ single_in (lines_at s i).items → r ≡ judged_single s qs R (lines_at s i).items t → r ≡ judged_braces s qs R (lines_at s i)
    unfolding judged_braces
    braces_are t p q = q ∙ ap (judged_single s qs R (lines_at s i).items) p ∙ sym (ap (judged_ending s qs R (lines_at s i).items) (counted s i n m e h).done)

  pub braces_broken : None ≡ lines_counted 0 0 (lines_at s i) → Ok false ≡ judged_braces s qs R (lines_at s i)
  unfolding judged_braces
  braces_broken h = sym (ap (judged_ending s qs R (lines_at s i).items) (not_counted s i h).1)
