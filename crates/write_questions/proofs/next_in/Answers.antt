-- `write_questions::next_in`: each way through.
use Prim.Native.Nat.{ℕ, ◌-◌}
use Rattle.table_rows.specs.Rows.{pattern_rows, question_patterns}
use Rattle.write_questions.proofs.Chain.{left_of, next_unnamed, next_none, next_apart, next_left}
use lib.Dec.{leb}
use mathlib.Core.Path.{sym, ap₂, ◌∙◌}
use native.Mathlib.Omega.{arith}
use Rattle.write_questions.proofs.next_in.Goals as goal

pub returns-then-question_len-eq0 : goal.returns-then-question_len-eq0
returns-then-question_len-eq0 c = next_unnamed c.args.questions.now c.args.patterns.now c.args.k c.args.q (sym c.question_len.ensures ∙ c.if-question_len-eq0.true)

pub returns-then-n-eq0 : goal.returns-then-n-eq0
returns-then-n-eq0 c = next_none c.args.questions.now c.args.patterns.now c.args.k c.args.q (λ z. c.if-question_len-eq0.false (c.question_len.ensures ∙ z)) (sym c.question_patterns-n.ensures ∙ c.if-n-eq0.true)

pub returns-then-question_first-k : goal.returns-then-question_first-k
returns-then-question_first-k c = next_apart c.args.questions.now c.args.patterns.now c.args.k c.args.q (λ z. c.if-question_len-eq0.false (c.question_len.ensures ∙ z)) (λ z. c.if-n-eq0.false (c.question_patterns-n.ensures ∙ z)) (λ z. c.if-question_first-k.true (c.question_first.ensures ∙ z))

pub overflow_sub-result : goal.overflow_sub-result
overflow_sub-result c = omega (arith, c.pattern_rows.ensures, c.requires.1)

pub returns : goal.returns
returns c = next_left c.args.questions.now c.args.patterns.now c.args.k c.args.q (λ z. c.if-question_len-eq0.false (c.question_len.ensures ∙ z)) (λ z. c.if-n-eq0.false (c.question_patterns-n.ensures ∙ z)) (sym c.question_first.ensures ∙ c.if-question_first-k.false)
    (ap₂ (λ (n m : ℕ). leb n (m - c.args.k)) c.question_patterns-n.ensures c.pattern_rows.ensures ∙ left_of c.args.k (question_patterns c.args.questions.now c.args.q) (pattern_rows c.args.patterns.now) c.requires.1)
