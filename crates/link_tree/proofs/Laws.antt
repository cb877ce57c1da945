-- Lines resolved one after the other: what is left, stored, gives the rows with all of them.
use mathlib.Core.Path.{◌≡◌, sym, ap, ap₂, ◌∙◌, subst}
use mathlib.Core.Bool.{Bool}
use mathlib.Core.List.{List, [], ◌∷◌}
use Prim.Native.Nat.{ℕ, suc, ◌+◌, ◌-◌, ◌*◌, ◌≤◌, ◌<◌}
use native.Mathlib.Numerals.{add-one}
use native.Mathlib.Omega.{arith}
use borrow.Author.Tests.{eq-eqb, ne_eqb}
use lib.IntN.{ℤ}
use lib.ListN.{length, take, drop, set}
use lib.Seq.{sets, length-sets, take-set-le, drop-set-lt}
use Rattle.error.specs.Numbers.{line_fault}
use Rattle.link_tree.specs.declared.Sides.{Sides}
use Rattle.std.specs.declared.result.Result.{Result}
use Rattle.std.specs.declared.option.Option.{Option}
use Rattle.std.specs.Prelude.{Some, None, Ok, Err}
use Rattle.written.specs.Said.{Ref}
use Rattle.link_search.specs.Index.{Ascends}
use Rattle.link_targets.specs.Lines.{WorkLine, line_in, lines_from}
use Rattle.link_targets.specs.Targets.{target_of, Ready, Rows}
use Rattle.link_tree.specs.Steps.{step_question, step_yes, step_of, first, outcome, goals_of, goals, sides}
use Rattle.error.specs.declared.LinkFault.{LinkFault}
use Rattle.error.specs.declared.LinkFault.TheVariants.{NodeRef, QuestionRef}

-- ---- one line

module _ (to : Ref → Option ℕ) (l : WorkLine) {f g : Option ℕ} {y n : ℕ} where
  pub step_unasked : f ≡ to l.yes → f ≡ Some y → g ≡ to l.no → g ≡ Some n → l.question ≡ 0 → Err QuestionRef ≡ step_of to l
  unfolding step_question
  step_unasked p q r s e = sym (ap₂ (step_yes l.question) (sym p ∙ q) (sym r ∙ s) ∙ rw (eq-eqb l.question 0 e))

  pub step_goes : f ≡ to l.yes → f ≡ Some y → g ≡ to l.no → g ≡ Some n → (l.question ≡ 0 → ⊥) → Ok (sides y n) ≡ step_of to l
  unfolding step_question
  step_goes p q r s e = sym (ap₂ (step_yes l.question) (sym p ∙ q) (sym r ∙ s) ∙ rw (ne_eqb l.question 0 e))

module _ (to : Ref → Option ℕ) (l : WorkLine) {f g : Option ℕ} {y : ℕ} where
  pub step_no : f ≡ to l.yes → f ≡ Some y → g ≡ to l.no → g ≡ None → Err NodeRef ≡ step_of to l
  step_no p q r s = sym (ap₂ (step_yes l.question) (sym p ∙ q) (sym r ∙ s))

pub step_yes_lem : (to : Ref → Option ℕ) (l : WorkLine) {f : Option ℕ} → f ≡ to l.yes → f ≡ None → Err NodeRef ≡ step_of to l
step_yes_lem to l p q = sym (ap (λ (x : Option ℕ). step_yes l.question x (to l.no)) (sym p ∙ q))

-- ---- the lines of the work

pub lines_on : (w : List ℤ) (n k : ℕ) → k < n → lines_from w k (n - k) ≡ line_in w k ∷ lines_from w (k + 1) (n - (k + 1))
unfolding lines_from
lines_on w n k h =
    let e : n - k ≡ suc (n - (k + 1)) = omega arith in
    ap (lines_from w k) e ∙ ap (λ (j : ℕ). line_in w k ∷ lines_from w j (n - (k + 1))) (sym (add-one k))

pub lines_end : (w : List ℤ) (n k : ℕ) → n ≤ k → lines_from w k (n - k) ≡ []
unfolding lines_from
lines_end w n k h = let e : n - k ≡ 0 = omega arith in ap (lines_from w k) e

pub lines_start : (w : List ℤ) (n : ℕ) → lines_from w 0 (n - 0) ≡ lines_from w 0 n
lines_start w n = let e : n - 0 ≡ n = omega arith in ap (lines_from w 0) e

module _ (w : List ℤ) (n leaves : ℕ) (ordered : Bool) (rows₀ : List ℕ) where
  -- where a line leads, by the leaves of the rows
  abbrev to : WorkLine → Result Sides LinkFault
  to = step_of (target_of w n (take leaves (drop (4 * n) rows₀)))

  pub record Resolving (rows : List ℕ) (line : ℕ) : Type 0 where
    pub within : line ≤ n
    pub long : length rows ≡ length rows₀
    pub ready : Rows w n leaves ordered rows
    pub same : take leaves (drop (4 * n) rows) ≡ take leaves (drop (4 * n) rows₀)
    pub stored : sets rows (2 * n + 2 * line) (goals to (lines_from w line (n - line))) ≡ sets rows₀ (2 * n) (goals to (lines_from w 0 n))
    pub out : outcome to line (lines_from w line (n - line)) ≡ outcome to 0 (lines_from w 0 n)

  module _ (rows : List ℕ) (line : ℕ) (p : Resolving rows line) where
    -- what a line was found to be, by the leaves of the rows at the start
    found : {s : Result Sides LinkFault} → s ≡ step_of (target_of w n (take leaves (drop (4 * n) rows))) (line_in w line) → s ≡ to (line_in w line)
    found e = e ∙ ap (λ (l : List ℕ). step_of (target_of w n l) (line_in w line)) p.same

    module _ (h : line < n) {s : Result Sides LinkFault} (e : s ≡ step_of (target_of w n (take leaves (drop (4 * n) rows))) (line_in w line)) where
      left : (k : Result Sides LinkFault) → s ≡ k → (goals to (lines_from w line (n - line)) ≡ goals_of k (goals to (lines_from w (line + 1) (n - (line + 1))))) × (outcome to line (lines_from w line (n - line)) ≡ first line k (outcome to (line + 1) (lines_from w (line + 1) (n - (line + 1)))))
      unfolding goals outcome
      left k q =
          let u : to (line_in w line) ≡ k = sym (found e) ∙ q in (
            ap (goals to) (lines_on w n line h) ∙ ap (λ (x : Result Sides LinkFault). goals_of x (goals to (lines_from w (line + 1) (n - (line + 1))))) u,
            ap (outcome to line) (lines_on w n line h) ∙ ap (λ (x : Result Sides LinkFault). first line x (outcome to (suc line) (lines_from w (line + 1) (n - (line + 1))))) u
                ∙ ap (λ (j : ℕ). first line k (outcome to j (lines_from w (line + 1) (n - (line + 1))))) (sym (add-one line)),
          )

      pub resolve_more : (y m : ℕ) → s ≡ Ok (sides y m) → (rows₁ : List ℕ) → rows₁ ≡ sets rows (2 * n + 2 * line) (y ∷ m ∷ []) → Resolving rows₁ (line + 1)
      resolve_more y m q rows₁ t =
          let k = 2 * n + 2 * line in
          let l = left (Ok (sides y m)) q in
          let front : take n rows₁ ≡ take n rows = ap (take n) t ∙ take-set-le n (set rows k y) (suc k) m (omega arith) ∙ take-set-le n rows k y (omega arith) in
          let back : drop (4 * n) rows₁ ≡ drop (4 * n) rows = ap (drop (4 * n)) t ∙ drop-set-lt (4 * n) (set rows k y) (suc k) m (omega arith) ∙ drop-set-lt (4 * n) rows k y (omega arith) in
          let size : length rows₁ ≡ length rows = ap length t ∙ length-sets rows k (y ∷ m ∷ []) in
          let at : 2 * n + 2 * (line + 1) ≡ suc (suc (2 * n + 2 * line)) = omega arith in
          record {
            within = omega arith;
            long = size ∙ p.long;
            ready =
                record {
                  room = omega (arith, p.ready.room);
                  ready = subst (λ (i : List ℕ). Ready w n i ordered) (sym front) p.ready.ready;
                  ascends = subst (λ (i : List ℕ). Ascends (take leaves i)) (sym back) p.ready.ascends;
                };
            same = ap (take leaves) back ∙ p.same;
            stored =
                ap₂ (λ i j. sets i j (goals to (lines_from w (line + 1) (n - (line + 1))))) t at
                ∙ sym (ap (sets rows k) l.0) ∙ p.stored;
            out = sym l.1 ∙ p.out;
          }

      pub resolve_fails : {f : LinkFault} → s ≡ Err f → (Err (line_fault f line) ≡ outcome to 0 (lines_from w 0 n)) × (rows ≡ sets rows₀ (2 * n) (goals to (lines_from w 0 n)))
      resolve_fails {f} q = let l = left (Err f) q in (sym l.1 ∙ p.out, sym (ap (sets rows (2 * n + 2 * line)) l.0) ∙ p.stored)

    pub resolve_done : n ≤ line → ((Ok tt) ≡ outcome to 0 (lines_from w 0 n)) × (rows ≡ sets rows₀ (2 * n) (goals to (lines_from w 0 n)))
    unfolding goals outcome
    resolve_done h =
        (sym (ap (outcome to line) (lines_end w n line h)) ∙ p.out, sym (ap (λ (l : List WorkLine). sets rows (2 * n + 2 * line) (goals to l)) (lines_end w n line h)) ∙ p.stored)
