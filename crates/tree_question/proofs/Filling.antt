-- What a pass that reads in order knows at each answer of this crate's readers: what is read of patterns and questions from there on.
use mathlib.Core.Path.{◌≡◌, sym, ap, ◌∙◌}
use mathlib.Core.List.{List, [], ◌∷◌}
use Prim.Native.Nat.{ℕ}
use lib.ListN.{length}
use Rattle.text_parts.specs.Parts.{read_to, cut}
use Rattle.std.specs.Prelude.{Some, None}
use Rattle.written.specs.Bytes.{Span}
use Rattle.written.specs.Said.{QuestionPlace}
use Rattle.laws.specs.Steps.{done_at, broken_at, Reading, read_of, read}
use Rattle.laws.proofs.Steps.{read_is}
use Rattle.laws.proofs.Parted.{onward}
use Rattle.tree_question.specs.Questions.{head_at, pattern_step_at, pattern_step, item_at, after_question, patterns_at, question_followed, question_read, question_headed, question_step_at, questions_from, questions_at}
use Rattle.tree_question.specs.declared.PatternStep.{PatternStep}
use Rattle.tree_question.specs.declared.PatternStep.TheVariants as pattern
use Rattle.tree_question.specs.declared.Item.TheVariants as item
use Rattle.tree_question.proofs.Joined.{pattern_step_here, pattern_reads, question_reads}

abbrev pub span : ℕ → ℕ → Span
span b n = record { start = b; len = n }

module _ (s : List ℕ) where
  -- ---- patterns

  pub patterns_are : (i : ℕ) → patterns_at s i ≡ read_of (patterns_at s) (pattern_step_here s i)
  unfolding patterns_at
  patterns_are i = read_is (pattern_step_here s) (length s) (onward (pattern_reads s)) i

  at_answer : (i : ℕ) {a : PatternStep} → a ≡ pattern_step_at s i → patterns_at s i ≡ read_of (patterns_at s) (pattern_step i a)
  at_answer i e = patterns_are i ∙ ap (λ x. read_of (patterns_at s) (pattern_step i x)) (sym e)

  pub patterns_next : (i : ℕ) {b n j : ℕ} → pattern.Next b n j ≡ pattern_step_at s i → patterns_at s i ≡ record { items = span b n ∷ (patterns_at s j).items; ending = (patterns_at s j).ending }
  patterns_next i e = at_answer i e

  pub patterns_last : (i : ℕ) {b n j : ℕ} → pattern.Last b n j ≡ pattern_step_at s i → patterns_at s i ≡ record { items = span b n ∷ []; ending = done_at j }
  patterns_last i e = at_answer i e

  pub patterns_broken : (i : ℕ) → pattern.Broken ≡ pattern_step_at s i → patterns_at s i ≡ record { items = []; ending = broken_at i }
  patterns_broken i e = at_answer i e

  -- ---- one question

  -- the questions from the place of one on
  abbrev pub questions_from_here : ℕ → Reading QuestionPlace
  questions_from_here = read (question_step_at s) (length s)

  pub questions_are : (i : ℕ) → questions_from_here i ≡ read_of questions_from_here (question_step_at s i)
  questions_are i = read_is (question_step_at s) (length s) (onward (question_reads s)) i

  module _ (i : ℕ) {b n f : ℕ} (h : Some (read_to (cut b n) f) ≡ head_at s i) where
    -- the question that stands at i, where its patterns are read
    abbrev pub asked : QuestionPlace
    asked = record { name = span b n; patterns = (patterns_at s f).items }

    pub headed : question_step_at s i ≡ question_read s i (span b n) (patterns_at s f).items (patterns_at s f).ending
    unfolding question_step_at
    headed = ap (question_headed s i) (sym h)

    pub questions_next : {e j : ℕ} → (patterns_at s f).ending ≡ done_at e → item.Question j ≡ after_question s e → questions_from_here i ≡ record { items = asked ∷ (questions_from_here j).items; ending = (questions_from_here j).ending }
    questions_next d a =
        questions_are i ∙ ap (read_of questions_from_here) (headed ∙ ap (question_read s i (span b n) (patterns_at s f).items) d ∙ ap (question_followed asked) (sym a))

    pub questions_last : {e j : ℕ} → (patterns_at s f).ending ≡ done_at e → item.Tree j ≡ after_question s e → questions_from_here i ≡ record { items = asked ∷ []; ending = done_at j }
    questions_last d a =
        questions_are i ∙ ap (read_of questions_from_here) (headed ∙ ap (question_read s i (span b n) (patterns_at s f).items) d ∙ ap (question_followed asked) (sym a))

    pub questions_stopped : {e : ℕ} → (patterns_at s f).ending ≡ broken_at e → questions_from_here i ≡ record { items = []; ending = broken_at i }
    questions_stopped d = questions_are i ∙ ap (read_of questions_from_here) (headed ∙ ap (question_read s i (span b n) (patterns_at s f).items) d)

  pub questions_broken : (i : ℕ) → None ≡ head_at s i → questions_from_here i ≡ record { items = []; ending = broken_at i }
  unfolding question_step_at
  questions_broken i h = questions_are i ∙ ap (λ t. read_of questions_from_here (question_headed s i t)) (sym h)

  -- ---- all questions of a text

  pub begins_question : (i : ℕ) {j : ℕ} → item.Question j ≡ item_at s i → questions_at s i ≡ questions_from_here j
  unfolding questions_at
  begins_question i h = ap (questions_from s) (sym h)

  pub begins_tree : (i : ℕ) {j : ℕ} → item.Tree j ≡ item_at s i → questions_at s i ≡ record { items = []; ending = done_at j }
  unfolding questions_at
  begins_tree i h = ap (questions_from s) (sym h)
