-- `link_shape::shape_of`: by the head of the tree.
use mathlib.Core.Path.{sym, ap, ◌∙◌}
use Rattle.link_shape.specs.Shapes.{shape_head}
use Rattle.link_shape.proofs.shape_of.Goals as goal

pub returns-in-Lone : goal.returns-in-Lone
returns-in-Lone c = ap (shape_head c.args.s.now) (sym c.in-Lone.is ∙ c.tree_head.ensures)

pub returns-in-Empty : goal.returns-in-Empty
returns-in-Empty c = ap (shape_head c.args.s.now) (sym c.in-Empty.is ∙ c.tree_head.ensures)

pub returns-in-Lines : goal.returns-in-Lines
returns-in-Lines c = c.braces_shape.ensures ∙ ap (shape_head c.args.s.now) (sym c.in-Lines.is ∙ c.tree_head.ensures)

pub returns-in-NoTree : goal.returns-in-NoTree
returns-in-NoTree c = ap (shape_head c.args.s.now) (sym c.in-NoTree.is ∙ c.tree_head.ensures)
