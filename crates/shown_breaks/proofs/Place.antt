-- A text breaks, by `written`, exactly where the survey says that reading stopped (02, Wish 2).
use mathlib.Core.Path.{◌≡◌, refl, sym, ap, ◌∙◌, subst}
use mathlib.Core.Bool.{Bool, true, false, cond}
use mathlib.Core.List.{List, []}
use mathlib.Core.Logic.{◌⊎◌, inl, inr}
use Prim.Native.Nat.{ℕ, suc, ◌<◌}
use native.Mathlib.Omega.{arith}
use native.Mathlib.Decide.{ℕ_discrete}
use borrow.Author.Tests.{lt-ltb, le-ltb, ltb-true, ne_eqb}
use lib.ListN.{length}
use Rattle.tree_survey.specs.declared.SurveyError.TheVariants as fault
use Rattle.std.specs.declared.option.Option.{Option}
use Rattle.std.specs.Prelude.{Some, None, Err}
use Rattle.written.specs.Bytes.{blank, space_or_tab}
use Rattle.written.specs.Said as says
use Rattle.written.specs.TreeText.{Run, some, Blanks, Parting, QuestionAt, TreeAt, Says}
use Rattle.written.specs.Breaks.{Asks, TreesBreak, QuestionsBreak, Breaks}
use Rattle.written.proofs.Once.{first, parting_end, at_end}
use Rattle.written_total.proofs.BreaksAlways.{says_or_breaks}
use Rattle.laws.specs.Runs.{stop}
use Rattle.laws.specs.Steps.{Ending, done_at, broken_at, Step, next, last, broken, Reading, read_of, read}
use Rattle.laws.proofs.Steps.{read_is}
use Rattle.laws.proofs.Parted.{onward}
use Rattle.laws.proofs.Stops.{run-stop, run_is, run₁-stop, run₁_is}
use Rattle.text_spaces.specs.Spaces.{parting_at}
use Rattle.text_spaces.proofs.Joined.{no_blank, clash, parting_found, found_parting}
use Rattle.tree_question.specs.Questions.{past_qs, blank_at, starts_question, item_at, item_parted, after_question, question_followed, question_step_at, questions_from, questions_at}
use Rattle.tree_question.specs.declared.Item.TheVariants as item
use Rattle.tree_question.proofs.Joined.{qs_past, past_qs_lem, question_read_lem, read_question, question_reads}
use Rattle.tree_body.specs.Trees.{Tree, tree_of, tree_parted, after_tree, tree_followed, tree_step_at, trees_at}
use Rattle.tree_body.specs.declared.TreeStep.TheVariants.{Next, End, Broken}
use Rattle.tree_body.proofs.Joined.{tree_read_lem, read_tree, reads}
use Rattle.tree_survey.specs.Survey.{text_read, text_at, survey_ended, survey_of, survey_at}
use Rattle.tree_survey.proofs.Joined.{silent_broken, broken_silent}

module _ (s : List ℕ) where
  -- ---- QS and a blank

  asks_starts : {i : ℕ} → Asks s i → starts_question s i ≡ true
  unfolding starts_question
  asks_starts a =
      let r = run₁-stop blank no_blank s (some a.then_blank (run_is blank no_blank s (suc a.past))) in
      ap (blank_at s) (qs_past s a.word) ∙ lt-ltb a.past (stop blank s a.past) (omega (arith, r.0, r.1))

  starts_asks : (i : ℕ) → starts_question s i ≡ true → Asks s i
  unfolding starts_question
  starts_asks i h = go (past_qs s i) refl h
    where
      go : (p : Option ℕ) → past_qs s i ≡ p → blank_at s p ≡ true → Asks s i
      go (Some a) q h = record { past = a; word = past_qs_lem s i a q; then_blank = first (run₁_is blank no_blank s a (ltb-true a (stop blank s a) h)) }
      go None q h = clash (cc)

  asks_not : (i : ℕ) → ¬ Asks s i → starts_question s i ≡ false
  asks_not i n = go (starts_question s i) refl
    where
      go : (c : Bool) → starts_question s i ≡ c → starts_question s i ≡ false
      go true h = absurd (n (starts_asks i h))
      go false h = h

  -- ---- a step that breaks where it stands

  no_tree : (i : ℕ) → ((e : ℕ) (t : says.Tree) (u : says.TreePlace) → ¬ TreeAt s i e t u) → tree_step_at s i ≡ broken i
  no_tree i n = go (tree_step_at s i) refl
    where
      stands : (z : Step Tree) → tree_step_at s i ≡ z → (z ≡ broken i → ⊥) → tree_step_at s i ≡ broken i
      stands z h f = let g = read_tree s i z h f in absurd (n g.ends g.said g.place g.item)

      at : (p : ℕ) → tree_step_at s i ≡ broken p → Dec (p ≡ i) → tree_step_at s i ≡ broken i
      at p h (yes e) = h ∙ ap broken e
      at p h (no e) = stands (broken p) h (λ q. let u : p ≡ i = cc in e u)

      go : (z : Step Tree) → tree_step_at s i ≡ z → tree_step_at s i ≡ broken i
      go (next x p) h = stands (next x p) h (λ q. clash (cc))
      go (last x p) h = stands (last x p) h (λ q. clash (cc))
      go (broken p) h = at p h (ℕ_discrete p i)

  no_question : (i : ℕ) → ((e : ℕ) (q : says.Question) (w : says.QuestionPlace) → ¬ QuestionAt s i e q w) → question_step_at s i ≡ broken i
  no_question i n = go (question_step_at s i) refl
    where
      stands : (z : Step says.QuestionPlace) → question_step_at s i ≡ z → (z ≡ broken i → ⊥) → question_step_at s i ≡ broken i
      stands z h f = let g = read_question s i z h f in absurd (n g.ends g.said g.place g.item)

      at : (p : ℕ) → question_step_at s i ≡ broken p → Dec (p ≡ i) → question_step_at s i ≡ broken i
      at p h (yes e) = h ∙ ap broken e
      at p h (no e) = stands (broken p) h (λ q. let u : p ≡ i = cc in e u)

      go : (z : Step says.QuestionPlace) → question_step_at s i ≡ z → question_step_at s i ≡ broken i
      go (next x p) h = stands (next x p) h (λ q. clash (cc))
      go (last x p) h = stands (last x p) h (λ q. clash (cc))
      go (broken p) h = at p h (ℕ_discrete p i)

  -- ---- what follows a tree

  next_tree : {e j : ℕ} → Parting s e j → j < length s → after_tree s e ≡ Next j
  unfolding after_tree space_or_tab
  next_tree {e} {j} p l =
      let n = ne_eqb (stop blank s e) (length s) (λ q. let z = parting_end p (subst (Run s blank e) q (run_is blank no_blank s e)) (ap space_or_tab (at_end s)) in omega arith) in
      rw (n, parting_found s p, lt-ltb j (length s) l)

  other_text : {e p : ℕ} → ¬ Blanks s e (length s) → ((j : ℕ) → Parting s e j → ¬ (j < length s)) → Blanks s e p → after_tree s e ≡ Broken p
  unfolding after_tree
  other_text {e} {p} b f r =
      let n = ne_eqb (stop blank s e) (length s) (λ q. b (subst (Run s blank e) q (run_is blank no_blank s e))) in
      let h : tree_parted s (stop blank s e) (parting_at s e) ≡ Broken p = parted (parting_at s e) refl ∙ ap Broken (run-stop blank no_blank s r) in
      ap (λ (c : Bool). cond c End (tree_parted s (stop blank s e) (parting_at s e))) n ∙ h
    where
      parted : (q : Option ℕ) → parting_at s e ≡ q → tree_parted s (stop blank s e) (parting_at s e) ≡ Broken (stop blank s e)
      parted (Some k) q =
          ap (tree_parted s (stop blank s e)) q
          ∙ ap (λ (c : Bool). cond c (Next k) (Broken (stop blank s e))) (le-ltb k (length s) (let m = f k (found_parting s e k q) in omega (arith, m)))
      parted None q = ap (tree_parted s (stop blank s e)) q

  -- ---- where reading ends

  tree_ends : (i : ℕ) {z : Step Tree} → tree_step_at s i ≡ z → (trees_at s i).ending ≡ (read_of (trees_at s) z).ending
  unfolding trees_at
  tree_ends i h = ap (λ (m : Reading Tree). m.ending) (read_is (tree_step_at s) (length s) (onward (reads s)) i ∙ ap (read_of (read (tree_step_at s) (length s))) h)

  pub trees_break : {i p : ℕ} → TreesBreak s i p → (trees_at s i).ending ≡ broken_at p
  trees_break {i} (TreesBreak.here n) = tree_ends i (no_tree i n)
  trees_break {i} (TreesBreak.later {t = t} {u = u} x y l b) = tree_ends i (tree_read_lem s x ∙ ap (tree_followed s (tree_of t u)) (next_tree y l)) ∙ trees_break b
  trees_break {i} (TreesBreak.other {t = t} {u = u} x n m w) = tree_ends i (tree_read_lem s x ∙ ap (tree_followed s (tree_of t u)) (other_text n m w))

  -- where the text ends whose questions end so; which they are doesn't matter
  abbrev ended : Ending → Ending
  ended d = (text_read s [] d).ending

  any_questions : (qs : List says.QuestionPlace) (d : Ending) → (text_read s qs d).ending ≡ ended d
  any_questions qs (done_at i) = refl
  any_questions qs (broken_at i) = refl

  abbrev asked : ℕ → Reading says.QuestionPlace
  asked i = read (question_step_at s) (length s) i

  question_ends : (i : ℕ) {z : Step says.QuestionPlace} → question_step_at s i ≡ z → (asked i).ending ≡ (read_of asked z).ending
  question_ends i h = ap (λ (m : Reading says.QuestionPlace). m.ending) (read_is (question_step_at s) (length s) (onward (question_reads s)) i ∙ ap (read_of asked) h)

  next_question : {e j : ℕ} → Parting s e j → Asks s j → after_question s e ≡ item.Question j
  unfolding after_question
  next_question {e} {j} p a = ap (item_parted s e) (parting_found s p) ∙ ap (λ (c : Bool). cond c (item.Question j) (item.Tree (stop blank s e))) (asks_starts a)

  first_tree : {e j : ℕ} → ((k : ℕ) → Parting s e k → ¬ Asks s k) → Blanks s e j → after_question s e ≡ item.Tree j
  unfolding after_question
  first_tree {e} {j} f b = parted (parting_at s e) refl ∙ ap item.Tree (run-stop blank no_blank s b)
    where
      parted : (q : Option ℕ) → parting_at s e ≡ q → item_parted s e (parting_at s e) ≡ item.Tree (stop blank s e)
      parted (Some k) q = ap (item_parted s e) q ∙ ap (λ (c : Bool). cond c (item.Question k) (item.Tree (stop blank s e))) (asks_not k (f k (found_parting s e k q)))
      parted None q = ap (item_parted s e) q

  questions_break : {i p : ℕ} → QuestionsBreak s i p → ended (asked i).ending ≡ broken_at p
  questions_break {i} (QuestionsBreak.here n) = ap ended (question_ends i (no_question i n))
  questions_break {i} (QuestionsBreak.later {w = w} x y a b) = ap ended (question_ends i (question_read_lem s x ∙ ap (question_followed w) (next_question y a))) ∙ questions_break b
  questions_break {i} (QuestionsBreak.trees {w = w} x m v b) = ap ended (question_ends i (question_read_lem s x ∙ ap (question_followed w) (first_tree m v))) ∙ trees_break b

  text_breaks : {b p : ℕ} → Breaks s b p → ended (questions_at s b).ending ≡ broken_at p
  unfolding questions_at item_at
  text_breaks {b} (Breaks.questions a x) = ap (λ (c : Bool). ended (questions_from s (cond c (item.Question b) (item.Tree (stop blank s b)))).ending) (asks_starts a) ∙ questions_break x
  text_breaks {b} (Breaks.trees n w x) =
      ap (λ (c : Bool). ended (questions_from s (cond c (item.Question b) (item.Tree (stop blank s b)))).ending) (asks_not b n)
      ∙ ap (λ (k : ℕ). (trees_at s k).ending) (run-stop blank no_blank s w)
      ∙ trees_break x

  -- ---- the survey

  pub breaks_broken : {b p : ℕ} → Breaks s b p → survey_at s b ≡ Err (fault.Broken p)
  unfolding survey_at survey_of text_at
  breaks_broken {b} x = ap (survey_ended (text_at s b)) (any_questions (questions_at s b).items (questions_at s b).ending ∙ text_breaks x)

  pub broken_breaks : (b p : ℕ) → survey_at s b ≡ Err (fault.Broken p) → Breaks s b p
  broken_breaks b p h = go (says_or_breaks s b)
    where
      go : ((t : says.Text) × (l : says.Layout) × Says s b t l) ⊎ ((q : ℕ) × Breaks s b q) → Breaks s b p
      go (inl (t, l, x)) = absurd (broken_silent s b p h t l x)
      go (inr (q, x)) = let e : Err (fault.Broken q) ≡ Err (fault.Broken p) = sym (breaks_broken x) ∙ h in let u : q ≡ p = cc in subst (Breaks s b) u x

  -- a text that says nothing breaks
  pub silent_breaks : (b : ℕ) → ((t : says.Text) (l : says.Layout) → ¬ Says s b t l) → (p : ℕ) × Breaks s b p
  silent_breaks b n = let r = silent_broken s b n in (r.0, broken_breaks b r.0 r.1)
