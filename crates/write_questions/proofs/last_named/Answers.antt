-- `write_questions::last_named`: no question from q + 1 up to j has the name.
use Rattle.laws.proofs.Every.{going_on, going_off, going_end}
use Rattle.write_questions.proofs.HiddenNames.{named_so, last_so}
use Rattle.write_questions.proofs.last_named.Goals as goal

pub returns-then-same_name : goal.returns-then-same_name
returns-then-same_name c = last_so c.args.s.now c.args.questions.now c.args.q c.question_rows-n.ensures (going_off _ _ _ _ c.loop-j.invariant c.loop-j-test.true (named_so c.args.s.now c.args.questions.now c.args.q c.loop-j.j c.name_of.ensures c.name_of-name.ensures c.same_name.ensures c.if-same_name.true))

pub loop-j-preserved : goal.loop-j-preserved
loop-j-preserved c = going_on _ _ _ _ c.loop-j.invariant c.loop-j-test.true (named_so c.args.s.now c.args.questions.now c.args.q c.loop-j.j c.name_of.ensures c.name_of-name.ensures c.same_name.ensures c.if-same_name.false)

pub returns : goal.returns
returns c = last_so c.args.s.now c.args.questions.now c.args.q c.question_rows-n.ensures (going_end _ _ _ _ c.loop-j.invariant c.loop-j-test.false)
