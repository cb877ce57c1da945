-- `write_rows::question_in`: its name, then its patterns.
use Prim.Native.Nat.{ℕ}
use Rattle.laws.proofs.Every.{not_first, then_second}
use Rattle.table_rows.specs.Rows.{question_first, question_patterns}
use Rattle.write_rows.specs.Tests.{among, question_in}
use borrow.Author.Tests.{not-true, not-false}
use lib.ListN.{length}
use mathlib.Core.Path.{sym, ap, ap₂, ◌∙◌}
use Rattle.write_rows.proofs.question_in.Goals as goal

pub returns-then-not-among_them : goal.returns-then-not-among_them
unfolding question_in
returns-then-not-among_them c = not_first _ (sym (ap₂ (λ (a n : ℕ). among a n (length c.args.s.now)) c.question_start-start.ensures c.question_len-len.ensures) ∙ sym c.among_them.ensures ∙ not-true _ c.if-not-among_them.true-raw)

pub returns : goal.returns
unfolding question_in
returns c = then_second (sym (ap₂ (λ (a n : ℕ). among a n (length c.args.s.now)) c.question_start-start.ensures c.question_len-len.ensures) ∙ sym c.among_them.ensures ∙ not-false _ c.if-not-among_them.false-raw)
    (c.among_them-2.ensures ∙ ap₂ (λ (a n : ℕ). among a n c.pattern_rows.result) c.question_first-first.ensures c.question_patterns-n.ensures ∙ ap (among (question_first c.args.questions.now c.args.q) (question_patterns c.args.questions.now c.args.q)) c.pattern_rows.ensures)
