-- `write_text::put_lines`: the lines that are left, put where the loop is, are all of them.
use Rattle.write_put.proofs.Puts.{leads_more, leads_done}
use Rattle.write_parts.specs.Parts.{line_of}
use Rattle.write_text.proofs.Laws.{flat_more, flat_done}
use Rattle.written.specs.Writing.{spelled_line}
use Rattle.write_text.proofs.put_lines.Goals as goal

pub loop-k-preserved : goal.loop-k-preserved
loop-k-preserved c = leads_more c.loop-k.invariant _ _ (flat_more (line_of c.args.s.now c.args.questions.now c.args.records.now c.args.first c.args.lines) c.loop-k.k c.args.lines spelled_line c.loop-k-test.true) c.put_line-i.ensures

pub returns : goal.returns
returns c = leads_done c.loop-k.invariant (flat_done (line_of c.args.s.now c.args.questions.now c.args.records.now c.args.first c.args.lines) c.loop-k.k c.args.lines spelled_line c.loop-k-test.false)
