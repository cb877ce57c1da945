-- `link_window::link_tree`: by the tree's shape.
use mathlib.Core.Path.{sym, ap, ap₂, ◌∙◌}
use Rattle.tree_question.specs.Questions.{questions_at}
use Rattle.tree_body.specs.Trees.{head_at}
use Rattle.link_shape.proofs.Laws.{lines_many}
use Rattle.link_window.specs.Windows.{fault_lines}
use Rattle.link_window.proofs.Laws.{fault_shape, fault_shape_lem}
use Rattle.link_window.proofs.link_tree.Goals as goal

pub first_astray-requires : goal.first_astray-requires
first_astray-requires c = let a = c.args in record { many = lines_many a.s.now (head_at a.s.now a.star) (sym c.in-Lines.is ∙ c.shape_of.ensures); order = c.ids_in_order.ensures }

pub returns-in-One : goal.returns-in-One
returns-in-One c = let a = c.args in c.link_alone.ensures ∙ ap (fault_shape a.s.now (questions_at a.s.now a.at).items) (sym c.in-One.is ∙ c.shape_of.ensures) ∙ fault_shape_lem a.s.now (questions_at a.s.now a.at).items (head_at a.s.now a.star)

pub returns-in-Empty : goal.returns-in-Empty
returns-in-Empty c = let a = c.args in ap (fault_shape a.s.now (questions_at a.s.now a.at).items) (sym c.in-Empty.is ∙ c.shape_of.ensures) ∙ fault_shape_lem a.s.now (questions_at a.s.now a.at).items (head_at a.s.now a.star)

pub returns-in-Lines : goal.returns-in-Lines
returns-in-Lines c = let a = c.args in c.lower.ensures ∙ ap₂ fault_lines c.first_astray.ensures c.first_unasked.ensures ∙ ap (fault_shape a.s.now (questions_at a.s.now a.at).items) (sym c.in-Lines.is ∙ c.shape_of.ensures) ∙ fault_shape_lem a.s.now (questions_at a.s.now a.at).items (head_at a.s.now a.star)

pub returns-in-Broken : goal.returns-in-Broken
returns-in-Broken c = let a = c.args in ap (fault_shape a.s.now (questions_at a.s.now a.at).items) (sym c.in-Broken.is ∙ c.shape_of.ensures) ∙ fault_shape_lem a.s.now (questions_at a.s.now a.at).items (head_at a.s.now a.star)
