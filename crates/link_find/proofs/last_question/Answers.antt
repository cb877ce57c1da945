-- `link_find::last_question`: by what the text begins with.
use mathlib.Core.Path.{sym, ap, ◌∙◌}
use Rattle.std.specs.Prelude.{None}
use Rattle.laws.specs.Steps.{Reading}
use Rattle.written.specs.Said.{QuestionPlace}
use Rattle.tree_question.proofs.Filling.{begins_question, begins_tree}
use Rattle.link_find.specs.Find.{named, asked}
use Rattle.link_find.proofs.Finding.{last_over}
use Rattle.link_find.proofs.last_question.Goals as goal

pub returns-in-Question : goal.returns-in-Question
returns-in-Question c = c.last_named.ensures ∙ sym (ap (λ (r : Reading QuestionPlace). asked c.args.s.now c.args.name.now r.items) (begins_question _ _ (sym c.in-Question.is ∙ c.first_item.ensures)))

pub returns-in-Tree : goal.returns-in-Tree
returns-in-Tree c = last_over (named _ _) 0 None (ap (λ (r : Reading QuestionPlace). r.items) (begins_tree _ _ (sym c.in-Tree.is ∙ c.first_item.ensures)))
