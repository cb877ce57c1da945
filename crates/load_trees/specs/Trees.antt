-- The trees of a text as words of the tables, tree after tree up to the first that linking refuses: tree rows (state, first record, records, lines, and 0, 0
-- until the block is read), records of four words, and what is left in the work.
use Rattle.std.specs.Prelude.{◌≡◌, Bool, true, false, List, [], ◌∷◌, ◌++◌, ℕ, suc, ◌+◌, ◌*◌, ℤ, Err, Ok, Result, ⊤}
use Rattle.std.proofs.lemmas.List.Edits.{sets}
use Rattle.laws.specs.Steps.{done_at}
use Rattle.tree_reference.specs.declared.TreeIndex.{TreeIndex}
use Rattle.tree_line.specs.Lines.{lines_at}
use Rattle.tree_body.specs.Trees.{Body, lone, braces, Tree, after_tree, trees_at}
use Rattle.tree_body.specs.declared.TreeHead.{TreeHead}
use Rattle.tree_body.specs.declared.TreeHead.TheVariants.{Lone, Empty, Lines, NoTree}
use Rattle.tree_body.specs.declared.TreeStep.{TreeStep}
use Rattle.tree_body.specs.declared.TreeStep.TheVariants as after
use Rattle.text_parts.specs.Parts.{nat_of}
use Rattle.load_lines.specs.Words.{line_words}
use Rattle.load_tree.specs.Bodies.{TreeResult, body_result, lines_end}
use Rattle.load_tree.specs.declared.TreeFill.{TreeFill}
use Rattle.load_trees.specs.declared.Following.{Following}
use Rattle.load_trees.specs.declared.Following.TheVariants as following
use Rattle.load_tree.specs.declared.Filled.{Filled}
use Rattle.error.specs.declared.LineFault.{LineFault}
use Rattle.error.specs.declared.LinkFault.{LinkFault}
use Rattle.load_trees.specs.declared.TreeFault.{TreeFault}

-- what linking refuses, and the tree and the line
abbrev pub unlinked : LinkFault → ℕ → ℕ → Result ⊤ TreeFault
unlinked f i k = Err (record { fault = f; tree = i; line = k })

abbrev pub all_linked : Result ⊤ TreeFault → Bool
all_linked (Ok _) = true
all_linked (Err l) = false

-- ---- a tree by its head

abbrev pub head_state : TreeHead → ℕ
head_state (Lone x r e) = nat_of x
head_state (Empty x e) = nat_of x
head_state (Lines x f) = nat_of x
head_state NoTree = 0

abbrev pub head_body : List ℕ → TreeHead → Body
head_body s (Lone x r e) = lone r
head_body s (Empty x e) = braces []
head_body s (Lines x f) = braces (lines_at s f).items
head_body s NoTree = braces []

-- the place past its body
abbrev pub head_end : List ℕ → TreeHead → ℕ
head_end s (Lone x r e) = e
head_end s (Empty x e) = e
head_end s (Lines x f) = lines_end s f
head_end s NoTree = 0

-- a tree whose lines can be read
pub data Whole (s : List ℕ) : TreeHead → Type 0 where
  leaf : {x : ℤ} {r : TreeIndex} {e : ℕ} → Whole s (Lone x r e)
  empty : {x : ℤ} {e : ℕ} → Whole s (Empty x e)
  lines : {x : ℤ} {f : ℕ} → (lines_at s f).ending ≡ done_at (lines_end s f) → Whole s (Lines x f)

-- reading the trees from i on comes to the end of the text
pub record Through (s : List ℕ) (i : ℕ) : Type 0 where
  pub end : ℕ
  pub done : (trees_at s i).ending ≡ done_at end

-- ---- one tree

-- its row, where f is its first record; none where it is refused
abbrev pub row_words : ℕ → ℕ → Result Filled LineFault → List ℕ
row_words x f (Ok b) = x ∷ f ∷ b.records ∷ b.lines ∷ 0 ∷ 0 ∷ []
row_words x f (Err b) = []

-- the work after it
abbrev pub work_of : List ℕ → List ℕ → ℕ → List ℤ → Body → List ℤ
work_of s questions n w (lone r) = w
work_of s questions n w (braces ls) = sets w 0 (line_words s questions n ls)

abbrev pub ended_at : ℕ → Result Filled LineFault → Result ⊤ TreeFault
ended_at k (Ok f) = Ok tt
ended_at k (Err f) = unlinked f.fault k f.line

-- what follows tree k, which has m records; and which ended so before the place e
abbrev pub follows_step : ℕ → TreeStep → Following
follows_step m (after.Next j) = following.Tree j m
follows_step m after.End = following.End (Ok tt)
follows_step m (after.Broken j) = following.End (Ok tt)

abbrev pub follows_at : List ℕ → ℕ → ℕ → Result Filled LineFault → Following
follows_at s k e (Ok f) = follows_step f.records (after_tree s e)
follows_at s k e (Err f) = following.End (unlinked f.fault k f.line)

-- ---- one tree after another; a tree that is refused is the last

-- what one tree gives, and where it has records what the others give behind it
abbrev pub then_rest : {A : Type 0} → Result Filled LineFault → A → (ℕ → A) → A
then_rest (Ok f) a rest = rest f.records
then_rest (Err f) a rest = a

module _ (s questions : List ℕ) (n : ℕ) where
  -- of the n questions of the table
  abbrev pub tree_result : Tree → TreeResult
  tree_result t = body_result s questions n t.body

  -- k: the number of the first of them
  unfoldable pub trees_end : ℕ → List Tree → Result ⊤ TreeFault
  trees_end k [] = Ok tt
  trees_end k (t ∷ ts) = then_rest (tree_result t).ends (ended_at k (tree_result t).ends) (λ m. trees_end (suc k) ts)

  -- f: the first record of the first of them
  unfoldable pub tree_words : ℕ → List Tree → List ℕ
  tree_words f [] = []
  tree_words f (t ∷ ts) = row_words (nat_of t.state) f (tree_result t).ends ++ then_rest (tree_result t).ends [] (λ m. tree_words (f + m) ts)

  unfoldable pub record_words : List Tree → List ℕ
  record_words [] = []
  record_words (t ∷ ts) = (tree_result t).rows ++ then_rest (tree_result t).ends [] (λ m. record_words ts)

  unfoldable pub work_after : List ℤ → List Tree → List ℤ
  work_after w [] = w
  work_after w (t ∷ ts) = then_rest (tree_result t).ends (work_of s questions n w t.body) (λ m. work_after (work_of s questions n w t.body) ts)

  -- ---- what filling leaves

  -- how a tree of this head ended and the place past it; its records, from record `first` on; the work
  abbrev pub BodyFilled : TreeHead → ℕ → List ℕ → List ℤ → TreeFill → List ℕ → List ℤ → Type 0
  BodyFilled h first records work r records₁ work₁ =
      (r.filled ≡ (body_result s questions n (head_body s h)).ends) × (r.next ≡ head_end s h)
      × (records₁ ≡ sets records (4 * first) (body_result s questions n (head_body s h)).rows) × (work₁ ≡ work_of s questions n work (head_body s h))

  -- and its row
  abbrev pub TreeFilled : TreeHead → ℕ → ℕ → List ℕ → List ℕ → List ℤ → TreeFill → List ℕ → List ℕ → List ℤ → Type 0
  TreeFilled h row first trees records work r trees₁ records₁ work₁ =
      BodyFilled h first records work r records₁ work₁ × (trees₁ ≡ sets trees (6 * row) (row_words (head_state h) first r.filled))

  -- all trees, into the tables from their fronts on
  abbrev pub TreesFilled : List Tree → List ℕ → List ℕ → List ℤ → Result ⊤ TreeFault → List ℕ → List ℕ → List ℤ → Type 0
  TreesFilled ts trees records work r trees₁ records₁ work₁ =
      (r ≡ trees_end 0 ts) × (trees₁ ≡ sets trees 0 (tree_words 0 ts)) × (records₁ ≡ sets records 0 (record_words ts)) × (work₁ ≡ work_after work ts)
