-- `write_links::line_in`: its kind, then where it goes.
use Rattle.write_links.proofs.Ways.{line_other, line_yes, line_no}
use borrow.Author.Tests.{not-true, not-false}
use Rattle.write_links.proofs.line_in.Goals as goal

pub returns-then-kind-ne0 : goal.returns-then-kind-ne0
returns-then-kind-ne0 c = line_other c.args.records.now c.args.first c.args.count c.args.lines c.args.k c.kind.ensures c.if-kind-ne0.true

pub returns-then-not-ref_in : goal.returns-then-not-ref_in
returns-then-not-ref_in c = line_yes c.args.records.now c.args.first c.args.count c.args.lines c.args.k c.kind.ensures c.if-kind-ne0.false c.goes_yes.ensures c.ref_in.ensures (not-true _ c.if-not-ref_in.true-raw)

pub returns : goal.returns
returns c = line_no c.args.records.now c.args.first c.args.count c.args.lines c.args.k c.kind.ensures c.if-kind-ne0.false c.goes_yes.ensures c.ref_in.ensures (not-false _ c.if-not-ref_in.false-raw) c.goes_no.ensures c.ref_in-2.ensures
