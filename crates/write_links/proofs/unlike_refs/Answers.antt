-- `write_links::unlike_refs`: more lines, or by its references.
use Rattle.write_links.proofs.Ways.{unlike_more, unlike_one}
use Rattle.write_links.proofs.unlike_refs.Goals as goal

pub returns-then-lines-ne1 : goal.returns-then-lines-ne1
returns-then-lines-ne1 c = unlike_more c.args.records.now c.args.first c.args.lines c.if-lines-ne1.true

pub returns : goal.returns
returns c = unlike_one c.args.records.now c.args.first c.args.lines c.if-lines-ne1.false c.goes_yes.ensures c.goes_no.ensures
