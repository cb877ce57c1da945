-- `walk_bare::walk_tree`: by the tree's shape.
use mathlib.Core.Path.{sym, ap, ◌∙◌}
use Rattle.tree_question.specs.Questions.{questions_at}
use Rattle.tree_body.specs.Trees.{head_at}
use Rattle.link_shape.proofs.Laws.{lines_many}
use Rattle.walk_bare.specs.Bare.{ended_of}
use Rattle.walk_bare.proofs.Laws.{walk_shape, walk_shape_lem}
use Rattle.walk_bare.proofs.walk_tree.Goals as goal

pub follow-requires : goal.follow-requires
follow-requires c = let a = c.args in lines_many a.s.now (head_at a.s.now a.star) (sym c.in-Lines.is ∙ c.shape_of.ensures)

pub returns-in-One : goal.returns-in-One
returns-in-One c = let a = c.args in c.alone.ensures ∙ ap (walk_shape a.s.now (questions_at a.s.now a.at).items a.answers.now a.limit) (sym c.in-One.is ∙ c.shape_of.ensures) ∙ walk_shape_lem a.s.now (questions_at a.s.now a.at).items a.answers.now a.limit (head_at a.s.now a.star)

pub returns-in-Empty : goal.returns-in-Empty
returns-in-Empty c = let a = c.args in ap (walk_shape a.s.now (questions_at a.s.now a.at).items a.answers.now a.limit) (sym c.in-Empty.is ∙ c.shape_of.ensures) ∙ walk_shape_lem a.s.now (questions_at a.s.now a.at).items a.answers.now a.limit (head_at a.s.now a.star)

pub returns-in-Lines : goal.returns-in-Lines
returns-in-Lines c = let a = c.args in c.ended.ensures ∙ ap (ended_of _) c.follow.ensures ∙ ap (walk_shape a.s.now (questions_at a.s.now a.at).items a.answers.now a.limit) (sym c.in-Lines.is ∙ c.shape_of.ensures) ∙ walk_shape_lem a.s.now (questions_at a.s.now a.at).items a.answers.now a.limit (head_at a.s.now a.star)

pub returns-in-Broken : goal.returns-in-Broken
returns-in-Broken c = let a = c.args in ap (walk_shape a.s.now (questions_at a.s.now a.at).items a.answers.now a.limit) (sym c.in-Broken.is ∙ c.shape_of.ensures) ∙ walk_shape_lem a.s.now (questions_at a.s.now a.at).items a.answers.now a.limit (head_at a.s.now a.star)
