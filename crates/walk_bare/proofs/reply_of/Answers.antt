-- `walk_bare::reply_of`: no, yes, or no byte.
use Rattle.walk_bare.proofs.Laws.{reply_no, reply_yes, reply_none}
use Rattle.walk_bare.proofs.reply_of.Goals as goal

pub returns-then-answers-question-eq0 : goal.returns-then-answers-question-eq0
returns-then-answers-question-eq0 c = reply_no _ _ _ _ c.if-question-answers.true c.if-answers-question-eq0.true

pub returns-else-answers-question-eq0 : goal.returns-else-answers-question-eq0
returns-else-answers-question-eq0 c = reply_yes _ _ _ _ c.if-question-answers.true c.if-answers-question-eq0.false

pub returns-else-question-answers : goal.returns-else-question-answers
returns-else-question-answers c = reply_none _ _ _ _ c.if-question-answers.false
