-- What the readers of this crate answer, on the list of bytes and the place; and the questions of a text as a list.
use Rattle.text_parts.specs.Parts.{read_to, cut}
use Rattle.text_parts.specs.declared.Read.{Read}
use Rattle.text_parts.specs.declared.Span.{Span as Piece}
use Rattle.std.specs.declared.option.Option.{Option}
use Rattle.std.specs.Prelude.{Bool, false, cond, List, [], ℕ, ltb, length, Some, None}
use Rattle.written.specs.Bytes.{comma, brace, blank, Span}
use Rattle.written.specs.Said.{QuestionPlace}
use Rattle.laws.specs.Runs.{stop}
use Rattle.laws.specs.Steps.{Ending, done_at, broken_at, Step, next, last, broken, Reading, read}
use Rattle.text_spaces.specs.Spaces.{past_byte, then_byte, name_at, close_at, parting_at}
use Rattle.text_numbers.specs.Answers.{pattern_at}
use Rattle.tree_question.specs.declared.PatternStep.{PatternStep}
use Rattle.tree_question.specs.declared.PatternStep.TheVariants.{Next, Last, Broken}
use Rattle.tree_question.specs.declared.Item.{Item}
use Rattle.tree_question.specs.declared.Item.TheVariants.{Question, Tree}

-- ---- QS

-- the place past QS
unfoldable pub past_qs : List ℕ → ℕ → Option ℕ
past_qs s i = then_byte 83 s (past_byte 81 s i)

abbrev pub blank_at : List ℕ → Option ℕ → Bool
blank_at s (Some i) = ltb i (stop blank s i)
blank_at s None = false

-- QS and a blank
unfoldable pub starts_question : List ℕ → ℕ → Bool
starts_question s i = blank_at s (past_qs s i)

-- ---- the head of a question

-- after its name, that is n bytes from b on
abbrev pub head_opened : List ℕ → ℕ → ℕ → Option ℕ → Option (Read Piece)
head_opened s b n (Some i) = Some (read_to (cut b n) (stop blank s i))
head_opened s b n None = None

abbrev pub head_named : List ℕ → Option (Read Piece) → Option (Read Piece)
head_named s (Some r) = head_opened s r.value.start r.value.len (past_byte brace s r.next)
head_named s None = None

abbrev pub head_started : List ℕ → Option ℕ → Option (Read Piece)
head_started s (Some i) = head_named s (name_at s i)
head_started s None = None

-- QS, blanks, name, blanks, {, blanks
unfoldable pub head_at : List ℕ → ℕ → Option (Read Piece)
head_at s i = head_started s (past_qs s i)

-- ---- patterns

-- the pattern of n bytes from b on, where } stands next or not
abbrev pub pattern_closed : ℕ → ℕ → Option ℕ → PatternStep
pattern_closed b n (Some i) = Last b n i
pattern_closed b n None = Broken

-- the same, which ends at e, where a comma stands or not
abbrev pub pattern_parted : List ℕ → ℕ → ℕ → ℕ → Option ℕ → PatternStep
pattern_parted s b n e (Some i) = Next b n (stop blank s i)
pattern_parted s b n e None = pattern_closed b n (close_at s e)

unfoldable pub after_pattern : List ℕ → ℕ → ℕ → ℕ → PatternStep
after_pattern s b n e = pattern_parted s b n e (past_byte comma s e)

abbrev pub pattern_found : List ℕ → Option (Read Piece) → PatternStep
pattern_found s (Some r) = after_pattern s r.value.start r.value.len r.next
pattern_found s None = Broken

-- a pattern and what follows it
unfoldable pub pattern_step_at : List ℕ → ℕ → PatternStep
pattern_step_at s i = pattern_found s (pattern_at s i)

-- ---- questions, and then a tree

-- what a text begins with
unfoldable pub item_at : List ℕ → ℕ → Item
item_at s i = cond (starts_question s i) (Question i) (Tree (stop blank s i))

abbrev pub item_parted : List ℕ → ℕ → Option ℕ → Item
item_parted s e (Some i) = cond (starts_question s i) (Question i) (Tree (stop blank s e))
item_parted s e None = Tree (stop blank s e)

-- what follows a question that ends at e
unfoldable pub after_question : List ℕ → ℕ → Item
after_question s e = item_parted s e (parting_at s e)

-- ---- a question's patterns, and all questions, as lists

abbrev pub pattern_step : ℕ → PatternStep → Step Span
pattern_step i (Next b n j) = next (record { start = b; len = n }) j
pattern_step i (Last b n j) = last (record { start = b; len = n }) j
pattern_step i Broken = broken i

-- the patterns from i on, up to the } behind the last
unfoldable pub patterns_at : List ℕ → ℕ → Reading Span
patterns_at s i = read (λ k. pattern_step k (pattern_step_at s k)) (length s) i

abbrev pub question_followed : QuestionPlace → Item → Step QuestionPlace
question_followed q (Question j) = next q j
question_followed q (Tree j) = last q j

-- the question at i, whose patterns are read, and where they end
abbrev pub question_read : List ℕ → ℕ → Span → List Span → Ending → Step QuestionPlace
question_read s i w ps (done_at e) = question_followed (record { name = w; patterns = ps }) (after_question s e)
question_read s i w ps (broken_at e) = broken i

abbrev pub question_headed : List ℕ → ℕ → Option (Read Piece) → Step QuestionPlace
question_headed s i (Some r) = question_read s i (record { start = r.value.start; len = r.value.len }) (patterns_at s r.next).items (patterns_at s r.next).ending
question_headed s i None = broken i

-- the question at i, and whether another follows it
unfoldable pub question_step_at : List ℕ → ℕ → Step QuestionPlace
question_step_at s i = question_headed s i (head_at s i)

abbrev pub questions_from : List ℕ → Item → Reading QuestionPlace
questions_from s (Question i) = read (question_step_at s) (length s) i
questions_from s (Tree i) = record { items = []; ending = done_at i }

-- all questions from i on, up to the place of the first tree
unfoldable pub questions_at : List ℕ → ℕ → Reading QuestionPlace
questions_at s i = questions_from s (item_at s i)
