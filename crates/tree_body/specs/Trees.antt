-- What the readers of this crate answer, on the list of bytes and the place; the trees of a text as a list; what a tree of `written` is in code.
use Rattle.text_parts.specs.declared.Read.{Read}
use Rattle.text_parts.specs.Parts.{read_to}
use Rattle.std.specs.declared.option.Option.{Option}
use Rattle.std.specs.Prelude.{cond, ℕ, ltb, eqb, ℤ, length, Some, None}
use mathlib.Core.List.{List, [], zip_with}
use Rattle.written.specs.Bytes.{bracket, unbracket, brace, unbrace, blank, Span}
use Rattle.written.specs.Said as said
use Rattle.laws.specs.Runs.{stop}
use Rattle.laws.specs.Steps.{Ending, done_at, broken_at, Step, next, last, broken, Reading, read}
use Rattle.text_spaces.specs.Spaces.{past_byte, then_byte, close_at, parting_at}
use Rattle.text_numbers.specs.Answers.{signed_at}
use Rattle.tree_reference.specs.References.{index_of, reference_at}
use Rattle.tree_reference.specs.declared.TreeIndex.{TreeIndex}
use Rattle.tree_line.specs.Lines.{line_of, lines_at}
use Rattle.tree_line.specs.declared.Line.{Line}
use Rattle.tree_body.specs.declared.TreeHead.{TreeHead}
use Rattle.tree_body.specs.declared.TreeHead.TheVariants.{Lone, Empty, Lines, NoTree}
use Rattle.tree_body.specs.declared.TreeStep.{TreeStep}
use Rattle.tree_body.specs.declared.TreeStep.TheVariants.{Next, End, Broken}

-- ---- what was read of a tree

-- one reference, or braces with lines, possibly none
pub data Body : Type 0 where
  lone : TreeIndex → Body
  braces : List Line → Body

-- the place of its {*}, its state and its body
pub record Tree : Type 0 where
  pub star : ℕ
  pub state : ℤ
  pub body : Body

-- ---- a tree of the text, as the code has it

-- lines, each with the place of its question name
abbrev pub body_of : said.Body → List Span → Body
body_of (said.lone r) ws = lone (index_of r)
body_of (said.braces ls) ws = braces (zip_with line_of ls ws)

abbrev pub tree_of : said.Tree → said.TreePlace → Tree
tree_of t u = record { star = u.star; state = t.state; body = body_of t.body u.names }

-- ---- {*}, [state]

-- the place past {*}
unfoldable pub past_star : List ℕ → ℕ → Option ℕ
past_star s i = then_byte unbrace s (then_byte 42 s (past_byte brace s i))

abbrev pub number_closed : List ℕ → ℤ → Option ℕ → Option (Read ℤ)
number_closed s x (Some i) = Some (read_to x (stop blank s i))
number_closed s x None = None

abbrev pub number_read : List ℕ → Option (Read ℤ) → Option (Read ℤ)
number_read s (Some r) = number_closed s r.value (past_byte unbracket s r.next)
number_read s None = None

-- a number, ], blanks
unfoldable pub number_at : List ℕ → ℕ → Option (Read ℤ)
number_at s i = number_read s (signed_at s i)

abbrev pub state_opened : List ℕ → Option ℕ → Option (Read ℤ)
state_opened s (Some i) = number_at s i
state_opened s None = None

abbrev pub state_starred : List ℕ → Option ℕ → Option (Read ℤ)
state_starred s (Some i) = state_opened s (past_byte bracket s (stop blank s i))
state_starred s None = None

-- {*}, blanks, [state], blanks
unfoldable pub state_at : List ℕ → ℕ → Option (Read ℤ)
state_at s i = state_starred s (past_star s i)

-- ---- the body

abbrev pub lone_read : ℤ → Option (Read TreeIndex) → TreeHead
lone_read x (Some q) = Lone x q.value q.next
lone_read x None = NoTree

-- braces from i on: blanks and }, or a line after blanks
abbrev pub braces_read : List ℕ → ℕ → ℤ → Option ℕ → TreeHead
braces_read s i x (Some j) = Empty x j
braces_read s i x None = Lines x (stop blank s i)

abbrev pub body_read : List ℕ → ℕ → ℤ → Option ℕ → TreeHead
body_read s i x (Some j) = braces_read s j x (close_at s j)
body_read s i x None = lone_read x (reference_at s i)

unfoldable pub body_at : List ℕ → ℕ → ℤ → TreeHead
body_at s i x = body_read s i x (past_byte brace s i)

abbrev pub head_read : List ℕ → Option (Read ℤ) → TreeHead
head_read s (Some r) = body_at s r.next r.value
head_read s None = NoTree

-- a tree, up to the end of its body or to its first line
unfoldable pub head_at : List ℕ → ℕ → TreeHead
head_at s i = head_read s (state_at s i)

-- ---- what follows a tree

-- the tree ends at e, and the first byte after it that is no blank stands at p
abbrev pub tree_parted : List ℕ → ℕ → Option ℕ → TreeStep
tree_parted s p (Some i) = cond (ltb i (length s)) (Next i) (Broken p)
tree_parted s p None = Broken p

unfoldable pub after_tree : List ℕ → ℕ → TreeStep
after_tree s e = cond (eqb (stop blank s e) (length s)) End (tree_parted s (stop blank s e) (parting_at s e))

-- ---- the trees of a text, as a list

abbrev pub tree_followed : List ℕ → Tree → TreeStep → Step Tree
tree_followed s t (Next j) = next t j
tree_followed s t End = last t (length s)
tree_followed s t (Broken j) = broken j

-- the tree at i of state x, whose lines are read, and where they end
abbrev pub tree_read : List ℕ → ℕ → ℤ → List Line → Ending → Step Tree
tree_read s i x ls (done_at e) = tree_followed s (record { star = i; state = x; body = braces ls }) (after_tree s e)
tree_read s i x ls (broken_at e) = broken i

abbrev pub tree_headed : List ℕ → ℕ → TreeHead → Step Tree
tree_headed s i (Lone x r e) = tree_followed s (record { star = i; state = x; body = lone r }) (after_tree s e)
tree_headed s i (Empty x e) = tree_followed s (record { star = i; state = x; body = braces [] }) (after_tree s e)
tree_headed s i (Lines x f) = tree_read s i x (lines_at s f).items (lines_at s f).ending
tree_headed s i NoTree = broken i

-- the tree at i, and whether another follows it
unfoldable pub tree_step_at : List ℕ → ℕ → Step Tree
tree_step_at s i = tree_headed s i (head_at s i)

-- all trees from i on, where the first stands, up to the end of the text
unfoldable pub trees_at : List ℕ → ℕ → Reading Tree
trees_at s i = read (tree_step_at s) (length s) i
