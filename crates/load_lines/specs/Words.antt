-- The lines of a tree as words of the work, six a line: id; kind and number of yes; kind and number of no; one more than the row of the
-- last question of the line's name, or 0 where there is none.
use Rattle.std.specs.declared.option.Option.{Option}
use Rattle.std.specs.Prelude.{List, [], ◌∷◌, ◌++◌, ℕ, ◌+◌, ℤ, pos, Some, None}
use Rattle.written.specs.Bytes.{same}
use Rattle.link_order.specs.Keys.{name_at}
use Rattle.text_parts.specs.Parts.{part_inside}
use Rattle.link_search.specs.Found.{last_below}
use Rattle.tree_reference.specs.declared.TreeIndex.{TreeIndex}
use Rattle.tree_reference.specs.declared.TreeIndex.TheVariants.{Node, Pdf}
use Rattle.tree_line.specs.declared.Line.{Line}

abbrev pub kind_of : TreeIndex → ℤ
kind_of (Node x) = pos 0
kind_of (Pdf x) = pos 1

abbrev pub number_of : TreeIndex → ℤ
number_of (Node x) = x
number_of (Pdf x) = x

abbrev pub asked_of : Option ℕ → ℤ
asked_of (Some k) = pos (k + 1)
asked_of None = pos 0

-- the last of n questions whose name the bytes at start are
unfoldable pub asked_at : List ℕ → List ℕ → ℕ → ℕ → ℕ → ℤ
asked_at s questions n start len = asked_of (last_below (λ e. same (name_at s questions e) (part_inside s start len)) n)

abbrev pub words_of : Line → ℤ → List ℤ
words_of l q = l.id ∷ kind_of l.yes ∷ number_of l.yes ∷ kind_of l.no ∷ number_of l.no ∷ q ∷ []

-- the words of lines, by the n questions of the table
unfoldable pub line_words : List ℕ → List ℕ → ℕ → List Line → List ℤ
line_words s questions n [] = []
line_words s questions n (l ∷ ls) = words_of l (asked_at s questions n l.start l.len) ++ line_words s questions n ls
