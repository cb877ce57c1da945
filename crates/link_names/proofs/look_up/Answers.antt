-- `link_names::look_up`: by what the text begins with.
use mathlib.Core.Path.{sym, ap, ◌∙◌}
use Rattle.laws.specs.Steps.{Reading}
use Rattle.written.specs.Said.{QuestionPlace}
use Rattle.tree_question.proofs.Filling.{begins_question, begins_tree}
use Rattle.link_names.proofs.Laws.{heard_in, silent_none, silent_some}
use Rattle.link_names.proofs.look_up.Goals as goal

pub first_unheard-requires : goal.first_unheard-requires
first_unheard-requires c = c.requires

pub returns-in-Question : goal.returns-in-Question
returns-in-Question c = heard_in c.args.s.now c.args.names.now (ap (λ (q : Reading QuestionPlace). q.items) (begins_question _ _ (sym c.in-Question.is ∙ c.first_item.ensures))) c.first_unheard.ensures

pub returns-then-n-eq0 : goal.returns-then-n-eq0
returns-then-n-eq0 c = silent_none c.args.s.now c.args.names.now (ap (λ (q : Reading QuestionPlace). q.items) (begins_tree _ _ (sym c.in-Tree.is ∙ c.first_item.ensures))) c.if-n-eq0.true

pub returns-else-n-eq0 : goal.returns-else-n-eq0
returns-else-n-eq0 c = silent_some c.args.s.now c.args.names.now (ap (λ (q : Reading QuestionPlace). q.items) (begins_tree _ _ (sym c.in-Tree.is ∙ c.first_item.ensures))) c.if-n-eq0.false
