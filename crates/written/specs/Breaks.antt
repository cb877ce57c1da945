-- Where a tree text breaks (02, Wish 2): the first byte of the question or tree that doesn't fit, blanks before it skipped. s is the text up to the end of its range, b where it begins.
-- Reading goes from item to item; each rule says what stands at the place reached, and where reading goes on or stops.
use Rattle.std.specs.Prelude.{◌≡◌, true, List, ℕ, ◌<◌, length}
use Rattle.written.specs.Bytes.{blank, byte_at}
use Rattle.written.specs.Said.{Tree, Question, QuestionPlace, TreePlace}
use Rattle.written.specs.TreeText.{QS, Word, Blanks, Parting, QuestionAt, TreeAt}

module _ (s : List ℕ) where
  -- QS and a blank stand at i: what stands there is a question
  pub record Asks (i : ℕ) : Type 0 where
    pub past : ℕ
    pub word : Word s QS i past
    pub then_blank : blank (byte_at s past) ≡ true

  -- a tree is to stand at i, and the text breaks at p
  pub data TreesBreak : ℕ → ℕ → Type 0 where
    -- it doesn't fit, or nothing stands there
    here : {i : ℕ} → ((e : ℕ) (t : Tree) (u : TreePlace) → ¬ TreeAt s i e t u) → TreesBreak i i
    -- after a tree and its parting, what isn't blank is a tree
    later : {i e j p : ℕ} {t : Tree} {u : TreePlace} → TreeAt s i e t u → Parting s e j → j < length s → TreesBreak j p → TreesBreak i p
    -- other text after a tree: its first byte that is no blank
    other : {i e p : ℕ} {t : Tree} {u : TreePlace}
        → TreeAt s i e t u → ¬ Blanks s e (length s) → ((j : ℕ) → Parting s e j → ¬ (j < length s)) → Blanks s e p → TreesBreak i p

  -- a question stands at i, and the text breaks at p
  pub data QuestionsBreak : ℕ → ℕ → Type 0 where
    here : {i : ℕ} → ((e : ℕ) (q : Question) (w : QuestionPlace) → ¬ QuestionAt s i e q w) → QuestionsBreak i i
    later : {i e j p : ℕ} {q : Question} {w : QuestionPlace} → QuestionAt s i e q w → Parting s e j → Asks j → QuestionsBreak j p → QuestionsBreak i p
    -- the first tree begins at the last question's end
    trees : {i e j p : ℕ} {q : Question} {w : QuestionPlace}
        → QuestionAt s i e q w → ((k : ℕ) → Parting s e k → ¬ Asks k) → Blanks s e j → TreesBreak j p → QuestionsBreak i p

  -- the text from b on breaks at p
  pub data Breaks (b : ℕ) : ℕ → Type 0 where
    questions : {p : ℕ} → Asks b → QuestionsBreak b p → Breaks b p
    trees : {i p : ℕ} → ¬ Asks b → Blanks s b i → TreesBreak i p → Breaks b p
