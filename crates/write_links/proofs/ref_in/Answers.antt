-- `write_links::ref_in`: past the records, a line, or a leaf.
use Rattle.write_links.proofs.Ways.{ref_past, ref_line, ref_leaf}
use Rattle.write_links.proofs.ref_in.Goals as goal

pub returns-then-count-k : goal.returns-then-count-k
returns-then-count-k c = ref_past c.args.records.now c.args.first c.args.count c.args.lines c.args.k c.if-count-k.true

pub returns-then-k-lines : goal.returns-then-k-lines
returns-then-k-lines c = ref_line c.args.records.now c.args.first c.args.count c.args.lines c.args.k c.if-count-k.false c.if-k-lines.true

pub returns : goal.returns
returns c = ref_leaf c.args.records.now c.args.first c.args.count c.args.lines c.args.k c.if-count-k.false c.if-k-lines.false c.first_leaf.ensures
