-- `house_text::tree_fits` meets its contract.
use mathlib.Core.Path.{sym, ap, ◌∙◌}
use Rattle.tree_body.specs.declared.TreeHead.{TreeHead}
use Rattle.load_trees.specs.Trees.{head_body}
use Rattle.house_text.specs.Text.{lines_fit, body_fits}
use Rattle.house_text.proofs.tree_fits.Goals as goal

pub returns-in-Lone : goal.returns-in-Lone
returns-in-Lone c = c.ref_fits.ensures ∙ ap (λ (h : TreeHead). body_fits c.args.entries (head_body c.args.s.now h)) (sym c.in-Lone.is ∙ c.tree_head.ensures)

pub returns-in-Empty : goal.returns-in-Empty
unfolding lines_fit
returns-in-Empty c = ap (λ (h : TreeHead). body_fits c.args.entries (head_body c.args.s.now h)) (sym c.in-Empty.is ∙ c.tree_head.ensures)

pub returns-in-Lines : goal.returns-in-Lines
returns-in-Lines c = c.lines_fit.ensures ∙ ap (λ (h : TreeHead). body_fits c.args.entries (head_body c.args.s.now h)) (sym c.in-Lines.is ∙ c.tree_head.ensures)

pub returns-in-NoTree : goal.returns-in-NoTree
unfolding lines_fit
returns-in-NoTree c = ap (λ (h : TreeHead). body_fits c.args.entries (head_body c.args.s.now h)) (sym c.in-NoTree.is ∙ c.tree_head.ensures)
