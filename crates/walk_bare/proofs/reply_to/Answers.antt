-- `walk_bare::reply_to`: by the question that is found.
use mathlib.Core.Path.{sym, ap, ◌∙◌}
use mathlib.Core.List.{List}
use Prim.Native.Nat.{ℕ}
use Rattle.tree_question.specs.Questions.{questions_at}
use Rattle.link_find.specs.Find.{asked}
use Rattle.walk_bare.proofs.Laws.{reply_at}
use Rattle.walk_bare.proofs.reply_to.Goals as goal

pub returns : goal.returns
returns c = reply_at _ _ _ _ (sym c.in_ok-question.was ∙ c.last_question.ensures ∙ ap (λ (w : List ℕ). asked c.args.s.now w (questions_at c.args.s.now c.args.at).items) c.part_inside.ensures) c.reply_of.ensures

pub returns-in_err-question : goal.returns-in_err-question
returns-in_err-question c = reply_at _ _ _ _ (sym c.in_err-question.was ∙ c.last_question.ensures ∙ ap (λ (w : List ℕ). asked c.args.s.now w (questions_at c.args.s.now c.args.at).items) c.part_inside.ensures) c.from_residual.ensures
