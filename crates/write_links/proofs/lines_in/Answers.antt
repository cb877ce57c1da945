-- `write_links::lines_in`: one test after the other.
use Rattle.write_links.proofs.Ways.{lines_short, lines_like, lines_off, leaves_off, lines_counted}
use borrow.Author.Tests.{not-true, not-false}
use native.Mathlib.Omega.{arith}
use Rattle.write_links.proofs.lines_in.Goals as goal

pub returns-then-count-lines : goal.returns-then-count-lines
returns-then-count-lines c = lines_short c.args.records.now c.args.first c.args.count c.args.lines c.if-count-lines.true

pub returns-then-not-unlike_refs : goal.returns-then-not-unlike_refs
returns-then-not-unlike_refs c = lines_like c.args.records.now c.args.first c.args.count c.args.lines c.if-count-lines.false c.unlike_refs.ensures (not-true _ c.if-not-unlike_refs.true-raw)

pub returns-then-not-lines_stand : goal.returns-then-not-lines_stand
returns-then-not-lines_stand c = lines_off c.args.records.now c.args.first c.args.count c.args.lines c.if-count-lines.false c.unlike_refs.ensures (not-false _ c.if-not-unlike_refs.false-raw) c.lines_stand.ensures (not-true _ c.if-not-lines_stand.true-raw)

pub returns-then-not-leaves_in : goal.returns-then-not-leaves_in
returns-then-not-leaves_in c = leaves_off c.args.records.now c.args.first c.args.count c.args.lines c.if-count-lines.false c.unlike_refs.ensures (not-false _ c.if-not-unlike_refs.false-raw) c.lines_stand.ensures (not-false _ c.if-not-lines_stand.false-raw) c.leaves_in.ensures (not-true _ c.if-not-leaves_in.true-raw)

pub all_counted-requires : goal.all_counted-requires
all_counted-requires c = (c.if-count-lines.false, omega (arith, c.if-count-lines.false, c.requires))

pub returns : goal.returns
returns c = lines_counted c.args.records.now c.args.first c.args.count c.args.lines c.if-count-lines.false c.unlike_refs.ensures (not-false _ c.if-not-unlike_refs.false-raw) c.lines_stand.ensures (not-false _ c.if-not-lines_stand.false-raw) c.leaves_in.ensures (not-false _ c.if-not-leaves_in.false-raw) c.all_counted.ensures
