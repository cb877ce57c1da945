-- `write_rows::rows_in`: one table after the other.
use Rattle.laws.proofs.Every.{not_first, then_second}
use Rattle.write_rows.specs.Tests.{rows_in}
use borrow.Author.Tests.{not-true, not-false}
use mathlib.Core.Path.{sym, ◌∙◌}
use Rattle.write_rows.proofs.rows_in.Goals as goal

pub returns-then-not-questions_in : goal.returns-then-not-questions_in
unfolding rows_in
returns-then-not-questions_in c = not_first _ (sym c.questions_in.ensures ∙ not-true _ c.if-not-questions_in.true-raw)

pub returns-then-not-patterns_in : goal.returns-then-not-patterns_in
unfolding rows_in
returns-then-not-patterns_in c = then_second (sym c.questions_in.ensures ∙ not-false _ c.if-not-questions_in.false-raw) (not_first _ (sym c.patterns_in.ensures ∙ not-true _ c.if-not-patterns_in.true-raw))

pub returns-then-not-all_ask_in : goal.returns-then-not-all_ask_in
unfolding rows_in
returns-then-not-all_ask_in c = then_second (sym c.questions_in.ensures ∙ not-false _ c.if-not-questions_in.false-raw) (then_second (sym c.patterns_in.ensures ∙ not-false _ c.if-not-patterns_in.false-raw) (not_first _ (sym c.all_ask_in.ensures ∙ not-true _ c.if-not-all_ask_in.true-raw)))

pub returns : goal.returns
unfolding rows_in
returns c = then_second (sym c.questions_in.ensures ∙ not-false _ c.if-not-questions_in.false-raw) (then_second (sym c.patterns_in.ensures ∙ not-false _ c.if-not-patterns_in.false-raw) (then_second (sym c.all_ask_in.ensures ∙ not-false _ c.if-not-all_ask_in.false-raw) c.trees_in.ensures))
