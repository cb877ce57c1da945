-- `write_text::put_questions`: the questions that are left, put where the loop is, are all of them.
use Rattle.write_put.proofs.Puts.{leads_more, leads_done}
use Rattle.write_parts.specs.Parts.{question_of}
use Rattle.write_text.proofs.Laws.{flat_more, flat_done}
use Rattle.written.specs.Writing.{spelled_question}
use Rattle.write_text.proofs.put_questions.Goals as goal

pub loop-q-preserved : goal.loop-q-preserved
loop-q-preserved c = leads_more c.loop-q.invariant _ _ (flat_more (question_of c.args.s.now c.args.questions.now c.args.patterns.now) c.loop-q.q c.question_rows-n.result spelled_question c.loop-q-test.true) c.put_question-i.ensures

pub returns : goal.returns
returns c = leads_done c.loop-q.invariant (flat_done (question_of c.args.s.now c.args.questions.now c.args.patterns.now) c.loop-q.q c.question_rows-n.result spelled_question c.loop-q-test.false)
