-- `write_tables::text_len`: the place behind it.
use Rattle.write_tables.proofs.Ways.{long}
use Rattle.write_tables.proofs.text_len.Goals as goal

pub returns : goal.returns
returns c = long c.args.s.now c.args.questions.now c.args.patterns.now c.args.trees.now c.args.records.now c.put_text.ensures
