-- `walk_bare::ask`: the line that was found.
use mathlib.Core.Path.{sym, ap, ◌∙◌}
use Rattle.tree_question.specs.Questions.{questions_at}
use Rattle.walk_bare.specs.Bare.{reply_borne}
use Rattle.walk_bare.proofs.ask.Goals as goal

pub returns : goal.returns
returns c = let a = c.args in c.reply_to.ensures ∙ ap (reply_borne a.s.now (questions_at a.s.now a.at).items a.answers.now) (sym c.in_ok-line.was ∙ c.seek.ensures)

pub returns-in_err-line : goal.returns-in_err-line
returns-in_err-line c = c.from_residual.ensures ∙ let a = c.args in ap (reply_borne a.s.now (questions_at a.s.now a.at).items a.answers.now) (sym c.in_err-line.was ∙ c.seek.ensures)
