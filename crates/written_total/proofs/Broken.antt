-- A text breaks at one place, and a text that breaks says nothing.
use mathlib.Core.Path.{◌≡◌, refl, sym, ap, ◌∙◌, subst}
use mathlib.Core.Bool.{true, false}
use mathlib.Core.List.{List}
use Prim.Native.Nat.{ℕ}
use native.Mathlib.Omega.{arith}
use lib.ListN.{length}
use Rattle.written.specs.Bytes.{blank, space_or_tab, byte_at}
use Rattle.written.specs.Said.{Tree, Question, QuestionPlace, TreePlace, Text, Layout}
use Rattle.written.specs.TreeText.{Parted, Run, Parting, QuestionAt, TreeAt, TreesAt, Says, Blanks}
use Rattle.written.specs.Breaks.{Asks, TreesBreak, QuestionsBreak, Breaks}
use Rattle.written.proofs.Once.{run_once, parting_once, parting_end, question_once, tree_once, word_first, first, head, Before, before, at_end, tree_first, trees_before}
use Rattle.written.proofs.Decide.{byte_inside}

module _ {s : List ℕ} where
  pub trees_break_once : {i k p q : ℕ} → TreesBreak s i p → TreesBreak s k q → i ≡ k → p ≡ q
  trees_break_once (TreesBreak.here n) (TreesBreak.here m) e = e
  trees_break_once (TreesBreak.here n) (TreesBreak.later {e = a} {t = t} {u = u} x y l b) e = absurd (n a t u (subst (λ (j : ℕ). TreeAt s j a t u) (sym e) x))
  trees_break_once (TreesBreak.here n) (TreesBreak.other {e = a} {t = t} {u = u} x y l b) e = absurd (n a t u (subst (λ (j : ℕ). TreeAt s j a t u) (sym e) x))
  trees_break_once (TreesBreak.later {e = a} {t = t} {u = u} x y l b) (TreesBreak.here n) e = absurd (n a t u (subst (λ (j : ℕ). TreeAt s j a t u) e x))
  trees_break_once (TreesBreak.later x y l b) (TreesBreak.later x' y' l' b') e = trees_break_once b b' (parting_once y y' (tree_once x x' e).0)
  trees_break_once (TreesBreak.later {j = j} x y l b) (TreesBreak.other x' n' m' w') e = absurd (m' j (subst (λ (k : ℕ). Parting s k j) (tree_once x x' e).0 y) l)
  trees_break_once (TreesBreak.other {e = a} {t = t} {u = u} x n m w) (TreesBreak.here n') e = absurd (n' a t u (subst (λ (j : ℕ). TreeAt s j a t u) e x))
  trees_break_once (TreesBreak.other x n m w) (TreesBreak.later {j = j} x' y' l' b') e = absurd (m j (subst (λ (k : ℕ). Parting s k j) (sym (tree_once x x' e).0) y') l')
  trees_break_once (TreesBreak.other x n m w) (TreesBreak.other x' n' m' w') e = run_once w w' (tree_once x x' e).0

  pub questions_break_once : {i k p q : ℕ} → QuestionsBreak s i p → QuestionsBreak s k q → i ≡ k → p ≡ q
  questions_break_once (QuestionsBreak.here n) (QuestionsBreak.here m) e = e
  questions_break_once (QuestionsBreak.here n) (QuestionsBreak.later {e = a} {q = q} {w = w} x y l b) e = absurd (n a q w (subst (λ (j : ℕ). QuestionAt s j a q w) (sym e) x))
  questions_break_once (QuestionsBreak.here n) (QuestionsBreak.trees {e = a} {q = q} {w = w} x y l b) e = absurd (n a q w (subst (λ (j : ℕ). QuestionAt s j a q w) (sym e) x))
  questions_break_once (QuestionsBreak.later {e = a} {q = q} {w = w} x y l b) (QuestionsBreak.here n) e = absurd (n a q w (subst (λ (j : ℕ). QuestionAt s j a q w) e x))
  questions_break_once (QuestionsBreak.later x y l b) (QuestionsBreak.later x' y' l' b') e = questions_break_once b b' (parting_once y y' (question_once x x' e).0)
  questions_break_once (QuestionsBreak.later {j = j} x y l b) (QuestionsBreak.trees x' m' w' b') e = absurd (m' j (subst (λ (k : ℕ). Parting s k j) (question_once x x' e).0 y) l)
  questions_break_once (QuestionsBreak.trees {e = a} {q = q} {w = w} x m v b) (QuestionsBreak.here n) e = absurd (n a q w (subst (λ (j : ℕ). QuestionAt s j a q w) e x))
  questions_break_once (QuestionsBreak.trees x m v b) (QuestionsBreak.later {j = j} x' y' l' b') e = absurd (m j (subst (λ (k : ℕ). Parting s k j) (sym (question_once x x' e).0) y') l')
  questions_break_once (QuestionsBreak.trees x m v b) (QuestionsBreak.trees x' m' v' b') e = trees_break_once b b' (run_once v v' (question_once x x' e).0)

  -- one place
  pub breaks_once : {b p q : ℕ} → Breaks s b p → Breaks s b q → p ≡ q
  breaks_once (Breaks.questions a x) (Breaks.questions c y) = questions_break_once x y refl
  breaks_once (Breaks.questions a x) (Breaks.trees n w y) = absurd (n a)
  breaks_once (Breaks.trees n w x) (Breaks.questions a y) = absurd (n a)
  breaks_once (Breaks.trees n w x) (Breaks.trees m v y) = trees_break_once x y (run_once w v refl)

-- ---- a text that breaks says nothing

module _ {s : List ℕ} where
  question_asks : {i j : ℕ} {q : Question} {w : QuestionPlace} → QuestionAt s i j q w → Asks s i
  question_asks (QuestionAt.question q a n b o c ps d z) = record { past = _; word = q; then_blank = first a }

  trees_silent : {i j k p : ℕ} {ts : List Tree} {us : List TreePlace} → Parted (Parting s) (TreeAt s) i j ts us → Blanks s j (length s) → TreesBreak s k p → i ≡ k → ⊥
  unfolding space_or_tab
  trees_silent (Parted.last {j = j} {x = t} {y = u} x) b (TreesBreak.here n) e = n j t u (subst (λ (k : ℕ). TreeAt s k j t u) e x)
  trees_silent (Parted.last x) b (TreesBreak.later {j = j} x' y' l' b') e =
      let z = parting_end (subst (λ (k : ℕ). Parting s k j) (sym (tree_once x x' e).0) y') b (ap space_or_tab (at_end s)) in omega arith
  trees_silent (Parted.last x) b (TreesBreak.other x' n' m' w') e = n' (subst (λ (k : ℕ). Blanks s k (length s)) (tree_once x x' e).0 b)
  trees_silent (Parted.next {a = a} {x = t} {y = u} x y r) b (TreesBreak.here n) e = n a t u (subst (λ (k : ℕ). TreeAt s k a t u) e x)
  trees_silent (Parted.next x y r) b (TreesBreak.later x' y' l' b') e = trees_silent r b b' (parting_once y y' (tree_once x x' e).0)
  trees_silent (Parted.next {b = c} x y r) b (TreesBreak.other x' n' m' w') e =
      m' c (subst (λ (k : ℕ). Parting s k c) (tree_once x x' e).0 y) (byte_inside s (tree_first (head r).3) (omega arith))

  questions_silent : {i a k p : ℕ} {qs : List Question} {ws : List QuestionPlace} {ts : List Tree} {us : List TreePlace}
      → Parted (Parting s) (QuestionAt s) i a qs ws → TreesAt s a ts us → QuestionsBreak s k p → i ≡ k → ⊥
  unfolding space_or_tab
  questions_silent (Parted.last {j = j} {x = q} {y = w} x) t (QuestionsBreak.here n) e = n j q w (subst (λ (k : ℕ). QuestionAt s k j q w) e x)
  questions_silent (Parted.last {j = m} x) t (QuestionsBreak.later {j = j} x' y' a' b') e = go (trees_before t)
    where
      go : Before s 123 m → ⊥
      go (before r h) =
          let z = parting_end (subst (λ (k : ℕ). Parting s k j) (sym (question_once x x' e).0) y') r (ap space_or_tab h) in
          let v : ◌≡◌ {A = ℕ} 81 123 = sym (word_first a'.word) ∙ ap (byte_at s) z ∙ h in omega arith
  questions_silent (Parted.last x) (TreesAt.trees a ts b) (QuestionsBreak.trees x' m' v' b') e = trees_silent ts b b' (run_once a v' (question_once x x' e).0)
  questions_silent (Parted.next {a = a} {x = q} {y = w} x y r) t (QuestionsBreak.here n) e = n a q w (subst (λ (k : ℕ). QuestionAt s k a q w) e x)
  questions_silent (Parted.next x y r) t (QuestionsBreak.later x' y' a' b') e = questions_silent r t b' (parting_once y y' (question_once x x' e).0)
  questions_silent (Parted.next {b = c} x y r) t (QuestionsBreak.trees x' m' v' b') e =
      m' c (subst (λ (k : ℕ). Parting s k c) (question_once x x' e).0 y) (question_asks (head r).3)

  pub breaks_silent : {b p : ℕ} {t : Text} {l : Layout} → Breaks s b p → Says s b t l → ⊥
  unfolding blank
  breaks_silent {b} (Breaks.questions a x) (Says.without t) = go (trees_before t)
    where
      go : Before s 123 b → ⊥
      go (before (Run.stop n) h) = let z : ◌≡◌ {A = ℕ} 81 123 = sym (word_first a.word) ∙ h in omega arith
      go (before (Run.more y r) h) = let z : true ≡ false = sym y ∙ ap blank (word_first a.word) in let u : ◌≡◌ {A = ℕ} 0 1 = cc in omega arith
  breaks_silent (Breaks.questions a x) (Says.with_questions qs t) = questions_silent qs t x refl
  breaks_silent (Breaks.trees n w x) (Says.without (TreesAt.trees a ts b)) = trees_silent ts b x (run_once a w refl)
  breaks_silent (Breaks.trees n w x) (Says.with_questions qs t) = n (question_asks (head qs).3)
