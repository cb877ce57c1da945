-- `trail_rows::row_lines`: one line is looked at.
use mathlib.Core.Path.{refl, sym, ◌∙◌}
use Rattle.trail_rows.proofs.Laws.{lines_many, lines_one}
use Rattle.trail_rows.proofs.row_lines.Goals as goal

pub returns-then-lines-ne1 : goal.returns-then-lines-ne1
returns-then-lines-ne1 c = lines_many _ _ c.if-lines-ne1.true

pub returns-in-Lines : goal.returns-in-Lines
returns-in-Lines c = lines_one _ _ c.if-lines-ne1.false (sym c.in-Lines.is ∙ c.tree_head.ensures) c.first_line.ensures

pub returns-in-Lone : goal.returns-in-Lone
returns-in-Lone c = lines_one _ _ c.if-lines-ne1.false (sym c.in-Lone.is ∙ c.tree_head.ensures) refl

pub returns-in-Empty : goal.returns-in-Empty
returns-in-Empty c = lines_one _ _ c.if-lines-ne1.false (sym c.in-Empty.is ∙ c.tree_head.ensures) refl

pub returns-in-NoTree : goal.returns-in-NoTree
returns-in-NoTree c = lines_one _ _ c.if-lines-ne1.false (sym c.in-NoTree.is ∙ c.tree_head.ensures) refl
