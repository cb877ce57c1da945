-- `write_questions::questions_fit`: questions, then patterns.
use Rattle.laws.proofs.Every.{not_first, then_second}
use Rattle.write_questions.specs.Tests.{questions_fit}
use borrow.Author.Tests.{not-true, not-false}
use mathlib.Core.Path.{sym, ◌∙◌}
use Rattle.write_questions.proofs.questions_fit.Goals as goal

pub returns-then-not-follow : goal.returns-then-not-follow
unfolding questions_fit
returns-then-not-follow c = not_first _ (sym c.follow.ensures ∙ not-true _ c.if-not-follow.true-raw)

pub returns : goal.returns
unfolding questions_fit
returns c = then_second (sym c.follow.ensures ∙ not-false _ c.if-not-follow.false-raw) c.some_bytes.ensures
