-- One tree of a text, whose {*} stands at f, beside all questions of it, which begin at i: as words of the tables, and what is stored.
use Rattle.std.specs.Prelude.{◌≡◌, List, ℕ, ◌*◌, ◌≤◌, ℤ, pos, length, replicate, Result, ⊤}
use Rattle.std.proofs.lemmas.List.Edits.{sets}
use Rattle.laws.specs.Totals.{total}
use Rattle.tree_question.specs.Questions.{questions_at}
use Rattle.tree_survey_questions.specs.Counts.{pattern_count}
use Rattle.tree_body.specs.Trees.{head_at}
use Rattle.tree_survey.specs.Survey.{body_records, body_lines}
use Rattle.load_questions.specs.Words.{Done, pattern_words}
use Rattle.load_tree.specs.Bodies.{TreeResult, body_result}
use Rattle.load_trees.specs.Trees.{head_state, head_body, Whole, row_words, work_of, ended_at}
use Rattle.load_text.specs.Text.{name_index, words_at, kept}
use Rattle.load_trees.specs.declared.TreeFault.{TreeFault}

-- the questions and that tree are in the grammar, and the tables, of so many words each, have room for n questions and the tree
pub record Fits (s : List ℕ) (i f n questions patterns trees records work : ℕ) : Type 0 where
  pub read : Done (questions_at s i)
  pub whole : Whole s (head_at s f)
  pub asked : n ≡ length (questions_at s i).items
  pub question_room : 4 * n ≤ questions
  pub pattern_room : 2 * total pattern_count (questions_at s i).items ≤ patterns
  pub tree_room : 6 ≤ trees
  pub record_room : 4 * body_records (head_body s (head_at s f)) ≤ records
  pub work_room : 6 * body_lines (head_body s (head_at s f)) ≤ work

-- how the tree ends, and its records
abbrev pub one_result : List ℕ → ℕ → ℕ → TreeResult
one_result s i f = body_result s (words_at s i) (length (questions_at s i).items) (head_body s (head_at s f))

-- how linking ends, where the tree is number k of its model
abbrev pub one_end : List ℕ → ℕ → ℕ → ℕ → Result ⊤ TreeFault
one_end s i f k = ended_at k (one_result s i f).ends

-- its row, before the block is read: its records are the first
abbrev pub one_row : List ℕ → ℕ → ℕ → List ℕ
one_row s i f = row_words (head_state (head_at s f)) 0 (one_result s i f).ends

-- ---- what is left

-- once the tree is linked: the index of names stands where the patterns will
abbrev pub OneLinked : List ℕ → ℕ → ℕ → ℕ → ℕ → List ℕ → List ℕ → List ℕ → List ℕ → List ℤ → Result ⊤ TreeFault → List ℕ → List ℕ → List ℕ → List ℕ → List ℤ → Type 0
OneLinked s i f n k questions patterns trees records work r questions₁ patterns₁ trees₁ records₁ work₁ =
    (r ≡ one_end s i f k) × (questions₁ ≡ sets questions 0 (words_at s i)) × (patterns₁ ≡ sets patterns 0 (name_index s (words_at s i) n))
    × (trees₁ ≡ sets trees 0 (one_row s i f)) × (records₁ ≡ sets records 0 (one_result s i f).rows)
    × (work₁ ≡ work_of s (words_at s i) n work (head_body s (head_at s f)))

-- in the end
abbrev pub OneFilled : List ℕ → ℕ → ℕ → ℕ → List ℕ → List ℕ → List ℕ → List ℕ → List ℤ → Result ⊤ TreeFault → List ℕ → List ℕ → List ℕ → List ℕ → List ℤ → Type 0
OneFilled s i f k questions patterns trees records work r questions₁ patterns₁ trees₁ records₁ work₁ =
    (r ≡ one_end s i f k) × (questions₁ ≡ kept r questions (words_at s i)) × (patterns₁ ≡ kept r patterns (pattern_words (questions_at s i).items))
    × (trees₁ ≡ kept r trees (one_row s i f)) × (records₁ ≡ kept r records (one_result s i f).rows) × (work₁ ≡ replicate (length work) (pos 0))
