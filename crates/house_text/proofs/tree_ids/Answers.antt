-- `house_text::tree_ids` meets its contract.
use mathlib.Core.Path.{sym, ap, ◌∙◌}
use Rattle.tree_body.specs.declared.TreeHead.{TreeHead}
use Rattle.link_find.specs.Find.{ordered}
use Rattle.load_trees.specs.Trees.{head_body}
use Rattle.house_text.specs.Text.{body_ids}
use Rattle.house_text.proofs.tree_ids.Goals as goal

pub returns-in-Lone : goal.returns-in-Lone
returns-in-Lone c = ap (λ (h : TreeHead). body_ids (head_body c.args.s.now h)) (sym c.in-Lone.is ∙ c.tree_head.ensures)

pub returns-in-Empty : goal.returns-in-Empty
unfolding ordered
returns-in-Empty c = ap (λ (h : TreeHead). body_ids (head_body c.args.s.now h)) (sym c.in-Empty.is ∙ c.tree_head.ensures)

pub returns-in-Lines : goal.returns-in-Lines
returns-in-Lines c = c.ids_in_order.ensures ∙ ap (λ (h : TreeHead). body_ids (head_body c.args.s.now h)) (sym c.in-Lines.is ∙ c.tree_head.ensures)

pub returns-in-NoTree : goal.returns-in-NoTree
unfolding ordered
returns-in-NoTree c = ap (λ (h : TreeHead). body_ids (head_body c.args.s.now h)) (sym c.in-NoTree.is ∙ c.tree_head.ensures)
