-- What the functions of this crate answer: a tree's shape, of its head and its lines.
use Rattle.tree_reference.specs.declared.TreeIndex.{TreeIndex}
use Rattle.std.specs.declared.option.Option.{Option}
use Rattle.std.specs.Prelude.{List, ℕ, length, Some, None}
use Rattle.laws.specs.Steps.{Ending, done_at, broken_at, Reading}
use Rattle.tree_line.specs.Lines.{lines_at}
use Rattle.tree_line.specs.declared.Line.{Line}
use Rattle.tree_body.specs.declared.TreeHead.{TreeHead}
use Rattle.tree_body.specs.declared.TreeHead.TheVariants as head
use Rattle.link_alone.specs.Alone.{single_in}
use Rattle.link_shape.specs.declared.Shape.{Shape}
use Rattle.link_shape.specs.declared.Shape.TheVariants.{One, Empty, Lines, Broken}

abbrev pub shape_single : ℕ → ℕ → Option TreeIndex → Shape
shape_single f n (Some x) = One x 1
shape_single f n None = Lines f n

abbrev pub shape_ending : ℕ → List Line → Ending → Shape
shape_ending f ls (done_at e) = shape_single f (length ls) (single_in ls)
shape_ending f ls (broken_at e) = Broken

unfoldable pub shape_braces : ℕ → Reading Line → Shape
shape_braces f r = shape_ending f r.items r.ending

abbrev pub shape_head : List ℕ → TreeHead → Shape
shape_head s (head.Lone x r e) = One r 0
shape_head s (head.Empty x e) = Empty
shape_head s (head.Lines x f) = shape_braces f (lines_at s f)
shape_head s head.NoTree = Broken
