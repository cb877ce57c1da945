-- `write_links::leaf_in`: a leaf, and its number.
use Rattle.write_links.proofs.Ways.{leaf_off, leaf_first, leaf_later}
use borrow.Author.Tests.{not-true, not-false}
use Rattle.write_links.proofs.leaf_in.Goals as goal

pub returns-then-not-leaf_at : goal.returns-then-not-leaf_at
returns-then-not-leaf_at c = leaf_off c.args.records.now c.args.first c.args.lines c.args.k c.leaf_at.ensures (not-true _ c.if-not-leaf_at.true-raw)

pub returns-then-k-lines : goal.returns-then-k-lines
returns-then-k-lines c = leaf_first c.args.records.now c.args.first c.args.lines c.args.k c.leaf_at.ensures (not-false _ c.if-not-leaf_at.false-raw) c.if-k-lines.true

pub returns : goal.returns
returns c = leaf_later c.args.records.now c.args.first c.args.lines c.args.k c.leaf_at.ensures (not-false _ c.if-not-leaf_at.false-raw) c.if-k-lines.false c.number.ensures c.number-2.ensures
