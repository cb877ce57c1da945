-- `write_questions::follow`: the questions that are left say what all say.
use Rattle.write_questions.proofs.Chain.{next_room, following_off, following_on, following_end}
use Rattle.write_questions.specs.Tests.{chained}
use borrow.Author.Tests.{not-true, not-false}
use mathlib.Core.Path.{sym, ap, ◌∙◌}
use native.Mathlib.Omega.{arith}
use Rattle.write_questions.proofs.follow.Goals as goal

pub returns-then-not-next_in : goal.returns-then-not-next_in
returns-then-not-next_in c = following_off c.args.questions.now c.args.patterns.now c.question_rows-n.result c.loop-q.q c.loop-q.k c.loop-q.invariant c.loop-q-test.true (sym c.next_in.ensures ∙ not-true _ c.if-not-next_in.true-raw) ∙ ap (chained c.args.questions.now c.args.patterns.now 0 0) c.question_rows-n.ensures

pub overflow_add-k : goal.overflow_add-k
overflow_add-k c = omega (arith, c.question_patterns-k.ensures, next_room c.args.questions.now c.args.patterns.now c.loop-q.k c.loop-q.q (sym c.next_in.ensures ∙ not-false _ c.if-not-next_in.false-raw), c.well_formed)

pub loop-q-preserved : goal.loop-q-preserved
loop-q-preserved c = following_on c.args.questions.now c.args.patterns.now c.question_rows-n.result c.loop-q.q c.loop-q.k c.loop-q.invariant c.loop-q-test.true (sym c.next_in.ensures ∙ not-false _ c.if-not-next_in.false-raw) c.question_patterns-k.ensures

pub returns : goal.returns
returns c = following_end c.args.questions.now c.args.patterns.now c.question_rows-n.result c.loop-q.q c.loop-q.k c.loop-q.invariant c.loop-q-test.false c.pattern_rows.ensures ∙ ap (chained c.args.questions.now c.args.patterns.now 0 0) c.question_rows-n.ensures
