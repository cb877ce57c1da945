-- `write_questions::not_hidden`: the last of its name, or by the records.
use Rattle.write_questions.proofs.HiddenNames.{is_last, not_last}
use Rattle.write_questions.proofs.not_hidden.Goals as goal

pub returns-then-last_named : goal.returns-then-last_named
returns-then-last_named c = is_last c.args.s.now c.args.questions.now c.args.records.now c.args.q c.last_named.ensures c.if-last_named.true

pub returns : goal.returns
returns c = not_last c.args.s.now c.args.questions.now c.args.records.now c.args.q c.last_named.ensures c.if-last_named.false c.none_asks.ensures
