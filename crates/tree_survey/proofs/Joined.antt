-- What is read of a text and what `written`'s grammar has it say are the same, both ways: (b) and (c) of tree text.
use mathlib.Core.Path.{◌≡◌, refl, sym, ap, ◌∙◌}
use mathlib.Core.Bool.{Bool, true, false, cond}
use mathlib.Core.List.{List, [], zip_with}
use Prim.Native.Nat.{ℕ}
use native.Mathlib.Omega.{arith}
use lib.ListN.{length}
use Rattle.tree_survey.specs.declared.SurveyError.TheVariants as fault
use Rattle.std.specs.Prelude.{Ok, Err}
use Rattle.written.specs.Bytes.{blank}
use Rattle.written.specs.Said as says
use Rattle.written.specs.TreeText.{Parted, stop as stops, more, Parting, QuestionAt, TreesAt, Says, without, with_questions}
use Rattle.written.proofs.Once.{Before, before, head, trees_before}
use Rattle.laws.specs.Runs.{stop}
use Rattle.laws.specs.Steps.{Ending, done_at, broken_at}
use Rattle.laws.proofs.Parted.{parted_read, read_parted, laid_only}
use Rattle.laws.proofs.Stops.{run_is}
use Rattle.text_spaces.proofs.Joined.{no_blank}
use Rattle.tree_question.specs.Questions.{starts_question, item_at, questions_from, questions_at}
use Rattle.tree_question.specs.declared.Item.TheVariants as item
use Rattle.tree_question.proofs.Joined.{question_starts, starts_qs, question_reads, tree_over, over_blanks}
use Rattle.tree_body.specs.Trees.{tree_of}
use Rattle.tree_body.proofs.Joined.{trees_read, read_trees}
use Rattle.laws.specs.Totals.{any_of}
use Rattle.tree_survey.specs.Survey.{text_read, text_at, tree_negative, survey_ended, survey_of, survey_at, counts_of}
use Rattle.tree_survey.specs.Said.{text_of}

module _ (s : List ℕ) where
  -- ---- what a text begins with

  begins_tree : (i : ℕ) → Before s 123 i → item_at s i ≡ item.Tree (stop blank s i)
  unfolding item_at blank
  begins_tree i b = go (starts_question s i) refl b
    where
      go : (c : Bool) → starts_question s i ≡ c → Before s 123 i → cond (starts_question s i) (item.Question i) (item.Tree (stop blank s i)) ≡ item.Tree (stop blank s i)
      go true c (before (stops n) h) = let z : ◌≡◌ {A = ℕ} 81 123 = sym (starts_qs s i c) ∙ h in absurd (omega arith)
      go true c (before (more y r) h) = let z : true ≡ false = sym y ∙ ap blank (starts_qs s i c) in let u : ◌≡◌ {A = ℕ} 0 1 = cc in absurd (omega arith)
      go false c b = rw c

  begins_question : {i j : ℕ} {x : says.Question} {y : says.QuestionPlace} → QuestionAt s i j x y → item_at s i ≡ item.Question i
  unfolding item_at
  begins_question {i} t = rw (question_starts s t)

  -- ---- what a text says is read

  asked : {i a : ℕ} {qs : List says.Question} {ws : List says.QuestionPlace} {ts : List says.Tree} {us : List says.TreePlace} → Parted (Parting s) (QuestionAt s) i a qs ws → TreesAt s a ts us
      → questions_at s i ≡ record { items = ws; ending = done_at (stop blank s a) }
  unfolding questions_at
  asked {a = a} p t =
      ap (questions_from s) (begins_question (head p).3) ∙ parted_read (question_reads s) p (tree_over s (trees_before t)) ∙ ap (λ l. record { items = l; ending = done_at (stop blank s a) }) (laid_only p)

  grown : {i : ℕ} {ts : List says.Tree} {us : List says.TreePlace} (qs : List says.QuestionPlace) → TreesAt s i ts us
      → text_read s qs (done_at (stop blank s i)) ≡ record { questions = qs; trees = zip_with tree_of ts us; ending = done_at (length s) }
  grown qs t = ap (λ m. record { questions = qs; trees = m.items; ending = m.ending }) (trees_read s t)

  -- (c) what a text says is read, all of it, in order
  pub says_read : {i : ℕ} {t : says.Text} {l : says.Layout} → Says s i t l → text_at s i ≡ text_of s t l
  unfolding text_at questions_at
  says_read {i} (without t) = ap (λ x. text_read s (questions_from s x).items (questions_from s x).ending) (begins_tree i (trees_before t)) ∙ grown [] t
  says_read {i} (with_questions {ws = ws} p t) = ap (λ r. text_read s r.items r.ending) (asked p t) ∙ grown ws t

  -- ---- what is read is said

  -- the text that s says from i on
  pub record Spoken (i : ℕ) : Type 0 where
    pub text : says.Text
    pub layout : says.Layout
    pub says : Says s i text layout

  pub read_says : (i e : ℕ) → (text_at s i).ending ≡ done_at e → Spoken i
  unfolding text_at questions_at item_at
  read_says i e h = go (starts_question s i) h
    where
      after : (a : ℕ) (d : Ending) → (questions_from s (item.Question i)).ending ≡ d → (text_read s (questions_from s (item.Question i)).items d).ending ≡ done_at e → Spoken i
      after a (done_at k) q h =
          let r = read_parted (question_reads s) i k q in
          let t = read_trees s r.ends k e (over_blanks s r.ends k r.closed) h in
          record { text = _; layout = _; says = with_questions r.items t.text }
      after a (broken_at k) q h = let u : ◌≡◌ {A = ℕ} 0 1 = cc in absurd (omega arith)

      go : (c : Bool) → (let x = cond c (item.Question i) (item.Tree (stop blank s i)) in text_read s (questions_from s x).items (questions_from s x).ending).ending ≡ done_at e → Spoken i
      go true h = after i (questions_from s (item.Question i)).ending refl h
      go false h = let t = read_trees s i (stop blank s i) e (run_is blank no_blank s i) h in record { text = _; layout = _; says = without t.text }

  -- ---- (b) the survey

  -- a text that says something has the survey of what it says
  pub survey_says : {i : ℕ} {t : says.Text} {l : says.Layout} → Says s i t l → survey_at s i ≡ survey_of (text_of s t l)
  unfolding survey_at
  survey_says p = ap survey_of (says_read p)

  -- a text that says something isn't broken
  pub says_whole : {i : ℕ} {t : says.Text} {l : says.Layout} (p : ℕ) → Says s i t l → ¬ (survey_at s i ≡ Err (fault.Broken p))
  unfolding survey_of
  says_whole {t = t} {l = l} p h e = go (any_of tree_negative false (text_of s t l).trees) _ _ _ _ _ (sym (survey_says h) ∙ e)
    where
      go : (b : Bool) (q m n r k : ℕ) → cond b (Err fault.Negative) (Ok (counts_of q m n r k)) ≡ Err (fault.Broken p) → ⊥
      go true q m n r k e = let u : ◌≡◌ {A = ℕ} 0 1 = cc in omega arith
      go false q m n r k e = let u : ◌≡◌ {A = ℕ} 0 1 = cc in omega arith

  -- a text that isn't broken says something
  pub whole_says : (i : ℕ) → ((p : ℕ) → ¬ (survey_at s i ≡ Err (fault.Broken p))) → Spoken i
  unfolding survey_at survey_of
  whole_says i n = go (text_at s i).ending refl
    where
      go : (d : Ending) → (text_at s i).ending ≡ d → Spoken i
      go (done_at e) q = read_says i e q
      go (broken_at p) q = absurd (n p (ap (survey_ended (text_at s i)) q))

  -- a text is broken exactly where it says nothing
  pub silent_broken : (i : ℕ) → ((t : says.Text) (l : says.Layout) → ¬ Says s i t l) → (p : ℕ) × (survey_at s i ≡ Err (fault.Broken p))
  unfolding survey_at survey_of
  silent_broken i n = go (text_at s i).ending refl
    where
      go : (d : Ending) → (text_at s i).ending ≡ d → (p : ℕ) × (survey_ended (text_at s i) (text_at s i).ending ≡ Err (fault.Broken p))
      go (done_at e) q = let r = read_says i e q in absurd (n r.text r.layout r.says)
      go (broken_at p) q = (p, ap (survey_ended (text_at s i)) q)

  pub broken_silent : (i p : ℕ) → survey_at s i ≡ Err (fault.Broken p) → (t : says.Text) (l : says.Layout) → ¬ Says s i t l
  broken_silent i p e t l h = says_whole p h e
