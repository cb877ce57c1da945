-- The rows of a whole tree text, whose questions begin at i and whose trees begin at f: as words of the tables, and what is stored.
use Rattle.std.specs.Prelude.{◌≡◌, cond, List, ℕ, ◌*◌, ◌≤◌, ℤ, pos, length, replicate, Result, ⊤}
use Rattle.std.proofs.lemmas.List.Edits.{sets}
use Rattle.laws.specs.Steps.{done_at}
use Rattle.laws.specs.Totals.{total, largest}
use Rattle.link_order.specs.Keys.{key_of, name_key, name_at}
use Rattle.link_sort.specs.Sorted.{sorted}
use Rattle.link_search.specs.Found.{count_from}
use Rattle.tree_question.specs.Questions.{questions_at}
use Rattle.tree_survey_questions.specs.Counts.{pattern_count}
use Rattle.tree_body.specs.Trees.{trees_at}
use Rattle.tree_survey.specs.Survey.{tree_records, tree_lines}
use Rattle.load_questions.specs.Words.{pattern_words, question_words}
use Rattle.load_trees.specs.Trees.{all_linked, Through, trees_end, tree_words, record_words, work_after}
use Rattle.load_trees.specs.declared.TreeFault.{TreeFault}

-- the text is in the grammar, and the tables, of so many words each, have room for its n questions and its trees
pub record Fits (s : List ℕ) (i f n questions patterns trees records work : ℕ) : Type 0 where
  pub begins : (questions_at s i).ending ≡ done_at f
  pub through : Through s f
  pub asked : n ≡ length (questions_at s i).items
  pub question_room : 4 * n ≤ questions
  pub pattern_room : 2 * total pattern_count (questions_at s i).items ≤ patterns
  pub tree_room : 6 * length (trees_at s f).items ≤ trees
  pub record_room : 4 * total tree_records (trees_at s f).items ≤ records
  pub work_room : 6 * largest tree_lines 0 (trees_at s f).items ≤ work

-- the rows of n questions, by name and then by row
abbrev pub name_index : List ℕ → List ℕ → ℕ → List ℕ
name_index s questions n = sorted (key_of (λ x. name_key (name_at s questions x))) (count_from 0 n)

-- the question rows
abbrev pub words_at : List ℕ → ℕ → List ℕ
words_at s i = question_words 0 (questions_at s i).items

-- how linking ends, and the tree rows and records
abbrev pub end_at : List ℕ → ℕ → ℕ → Result ⊤ TreeFault
end_at s i f = trees_end s (words_at s i) (length (questions_at s i).items) 0 (trees_at s f).items

abbrev pub trees_stored : List ℕ → ℕ → ℕ → List ℕ
trees_stored s i f = tree_words s (words_at s i) (length (questions_at s i).items) 0 (trees_at s f).items

abbrev pub records_stored : List ℕ → ℕ → ℕ → List ℕ
records_stored s i f = record_words s (words_at s i) (length (questions_at s i).items) (trees_at s f).items

-- a table after linking: with the words in front, or zero where it is refused
abbrev pub kept : Result ⊤ TreeFault → List ℕ → List ℕ → List ℕ
kept o t words = cond (all_linked o) (sets t 0 words) (replicate (length t) 0)

-- ---- what is left of n questions from i on and of the trees from f on

-- once the trees are linked: the index of names stands where the patterns will
abbrev pub TextLinked : List ℕ → ℕ → ℕ → ℕ → List ℕ → List ℕ → List ℕ → List ℕ → List ℤ → Result ⊤ TreeFault → List ℕ → List ℕ → List ℕ → List ℕ → List ℤ → Type 0
TextLinked s i f n questions patterns trees records work r questions₁ patterns₁ trees₁ records₁ work₁ =
    (r ≡ end_at s i f) × (questions₁ ≡ sets questions 0 (words_at s i)) × (patterns₁ ≡ sets patterns 0 (name_index s (words_at s i) n))
    × (trees₁ ≡ sets trees 0 (trees_stored s i f)) × (records₁ ≡ sets records 0 (records_stored s i f))
    × (work₁ ≡ work_after s (words_at s i) n work (trees_at s f).items)

-- in the end
abbrev pub TextFilled : List ℕ → ℕ → ℕ → List ℕ → List ℕ → List ℕ → List ℕ → List ℤ → Result ⊤ TreeFault → List ℕ → List ℕ → List ℕ → List ℕ → List ℤ → Type 0
TextFilled s i f questions patterns trees records work r questions₁ patterns₁ trees₁ records₁ work₁ =
    (r ≡ end_at s i f) × (questions₁ ≡ kept r questions (words_at s i)) × (patterns₁ ≡ kept r patterns (pattern_words (questions_at s i).items))
    × (trees₁ ≡ kept r trees (trees_stored s i f)) × (records₁ ≡ kept r records (records_stored s i f)) × (work₁ ≡ replicate (length work) (pos 0))
